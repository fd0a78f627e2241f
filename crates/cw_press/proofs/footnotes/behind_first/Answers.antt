-- `behind_first`: answer on one of its ways; said here, so that a wrong one fails at once.
use Rattle.cw_press.proofs.Terms.{arith, common_steps}
use Rattle.cw_press.proofs.footnotes.behind_first.Goals as goal

pub returns-in-len1-up : goal.returns-in-len1-up
returns-in-len1-up c = grind (arith, common_steps)
