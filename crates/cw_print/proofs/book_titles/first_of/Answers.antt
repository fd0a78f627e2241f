-- `first_of`: answer on one of its ways; said here, so that a wrong one fails at once.
use Rattle.cw_print.proofs.Terms.{arith, common_steps}
use Rattle.cw_print.proofs.book_titles.first_of.Goals as goal

pub returns-in-len1-up : goal.returns-in-len1-up
returns-in-len1-up c = grind (arith, common_steps)
