-- One replaced scrap whose test admits the end decides; behind the last of them, none does.
use Rattle.cw_table.proofs.Terms.{arith, nat_tests}
use Rattle.cw_table.proofs.CheckLaws.{ends-none, ends-whole}
use Rattle.cw_table.proofs.types.Row.replaces_no_end.Goals as goal

pub returns-then-has : goal.returns-then-has
returns-then-has c = grind (arith, nat_tests, ends-none)

pub returns : goal.returns
returns c = ends-whole c.args.self.now c.loop-k.k (omega arith) c.loop-k.invariant
