-- One scrap before the new one that doesn't suit both rows decides; at the new one, all before it suit.
use Rattle.cw_table.proofs.Terms.{◌≡◌, ◌+◌, ap, sym, ◌∙◌, arith, false, zero-add, nat_tests, meet, test}
use Rattle.cw_table.proofs.{HazardLaws.not-all-numbers, SafeLaws.all-numbers}
use Rattle.cw_table.proofs.types.Row.suits_before.Goals as goal

pub returns : goal.returns
returns c = grind (arith, nat_tests, all-numbers, zero-add)

pub returns-then-not-meets : goal.returns-then-not-meets
returns-then-not-meets c =
    let e : meet c.test_at.result c.test_at-in-loop-a.result ≡ false = sym c.meets.ensures ∙ c.if-not-meets.true in
    let t : meet (test c.args.other.now (c.args.places + c.loop-a.a)) (test c.args.self.now c.loop-a.a) ≡ false =
    cc (c.test_at.ensures, c.test_at-in-loop-a.ensures) in
    sym (not-all-numbers (λ a. meet (test c.args.other.now (c.args.places + a)) (test c.args.self.now a)) 0
    c.args.self.now.offset c.loop-a.a c.loop-a-test.true
    (ap (λ a. meet (test c.args.other.now (c.args.places + a)) (test c.args.self.now a)) (zero-add c.loop-a.a) ∙ t))
