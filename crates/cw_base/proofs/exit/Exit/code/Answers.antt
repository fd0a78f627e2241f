-- `code`: answer at `Fault`; said here, so that a wrong one fails at once.
use Rattle.cw_base.proofs.Terms.{arith, common_steps}
use Rattle.cw_base.proofs.exit.Exit.code.Goals as goal

pub returns-in-Fault : goal.returns-in-Fault
returns-in-Fault c = grind (arith, common_steps)
