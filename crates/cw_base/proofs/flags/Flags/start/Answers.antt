-- `start`: answer; said here, so that a wrong one fails at once.
use Rattle.cw_base.proofs.Terms.{arith, common_steps}
use Rattle.cw_base.proofs.flags.Flags.start.Goals as goal

pub returns : goal.returns
returns c = grind (arith, common_steps)
