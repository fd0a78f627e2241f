-- One test behind the new scrap that doesn't suit decides; behind the last of them, all suit.
use Rattle.cw_table.proofs.Terms.{◌≡◌, ◌+◌, ◌-◌, ap, sym, suc, ◌∙◌, arith, nat_tests, suits_at}
use Rattle.cw_table.proofs.{HazardLaws.not-all-numbers, SafeLaws.all-numbers}
use Rattle.cw_table.proofs.types.Row.suits_after.Goals as goal

pub returns : goal.returns
returns c = grind (arith, nat_tests, all-numbers)

pub returns-then-not-suits_at : goal.returns-then-not-suits_at
returns-then-not-suits_at c =
    let split : suc (c.args.places + c.args.self.now.offset)
    + (c.loop-s.s - suc (c.args.places + c.args.self.now.offset)) ≡ c.loop-s.s = omega (arith, c.loop-s.auto.s) in
    sym (not-all-numbers (suits_at c.args.self.now c.args.other.now c.args.places) (suc (c.args.places
    + c.args.self.now.offset)) (c.args.other.now.test_count - suc (c.args.places + c.args.self.now.offset))
    (c.loop-s.s - suc (c.args.places + c.args.self.now.offset)) (omega (arith, c.loop-s-test.true, c.loop-s.auto.s)) (ap
    (suits_at c.args.self.now c.args.other.now c.args.places) split ∙ sym c.suits_at.ensures ∙ c.if-not-suits_at.true))
