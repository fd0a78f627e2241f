-- `class_of`: answer on one of its ways; said here, so that a wrong one fails at once.
use Rattle.cw_index.proofs.Terms.{arith, common_steps}
use Rattle.cw_index.proofs.collation.class_of.Goals as goal

pub returns-in-65-to-90 : goal.returns-in-65-to-90
returns-in-65-to-90 c = grind (arith, common_steps)

pub returns-in-48-to-57 : goal.returns-in-48-to-57
returns-in-48-to-57 c = grind (arith, common_steps)
