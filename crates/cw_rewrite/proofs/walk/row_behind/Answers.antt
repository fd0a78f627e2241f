-- The row found by four categories is the first that fits at the place; two of them may tell that none does.
use Rattle.std.proofs.Common.{arith}
use Rattle.cw_scraps.proofs.FirstRows.{window-line}
use Rattle.cw_rewrite.proofs.WalkSteps.{first-line, none-line}
use Rattle.cw_rewrite.proofs.walk.row_behind.Goals as goal

pub returns-then-may_fit-clause-first : goal.returns-then-may_fit-clause-first
returns-then-may_fit-clause-first g c = first-line c.args.line.now c.args.place _ _ (rw (
  c.requires.seen.first_is,
  c.requires.seen.second_is,
  c.cat_behind-third.ensures.cat,
  c.cat_behind-fourth.ensures.cat,
) (window-line c.args.line.now c.args.place)) c.first_of_four.ensures.first c.first_of_four.ensures.from_one
    c.first_of_four.ensures.to_last

pub returns-clause-first : goal.returns-clause-first
returns-clause-first g c = none-line c.args.line.now c.args.place c.args.seen.0 c.args.seen.1
    c.requires.seen.first_is c.requires.seen.second_is (c.may_fit.ensures.none c.if-may_fit.false)

-- four steps are counted, on each way
pub returns-then-may_fit-clause-steps : goal.returns-then-may_fit-clause-steps
returns-then-may_fit-clause-steps g c =
    omega (arith, c.cat_behind-fourth.ensures.steps, c.cat_behind-third.ensures.steps)

pub returns-clause-steps : goal.returns-clause-steps
returns-clause-steps g c = omega (arith, c.tick.ensures, c.tick-2.ensures)
