-- `pause`: answer at `Marked`; said here, so that a wrong one fails at once.
use Rattle.cw_join.proofs.Terms.{arith, common_steps}
use Rattle.cw_join.proofs.run.ControlRun.pause.Goals as goal

pub returns-in-Marked : goal.returns-in-Marked
returns-in-Marked c = grind (arith, common_steps)
