-- What is written keeps the output writable, and the joiner stands for one item more.
use Rattle.std.proofs.Common.{ℕ, subst}
use Rattle.cw_lines.specs.laws.WritesLaws.{can-after}
use Rattle.cw_join.specs.Tokens.{CanCome}
use Rattle.cw_unit_tests.proofs.joiner_tests.push_one.Goals as goal

pub push-requires-clause-come : goal.push-requires-clause-come
push-requires-clause-come c =
    subst (λ (n : ℕ). CanCome n c.args.joiner.now.depth c.args.token.item) c.len.ensures.value
    (c.if-not-is_plain.ensures c.args.joiner.now.depth)

pub returns : goal.returns
returns c = record {
  can = can-after c.requires.can (c.in_ok-push.ensures.puts c.requires.stands.0 c.requires.stands.1);
  stands = (_, c.in_ok-push.ensures.stands c.requires.stands.0 c.requires.stands.1);
}
