-- `stronger`: answer on one of its ways; said here, so that a wrong one fails at once.
use Rattle.cw_join.proofs.Terms.{arith, common_steps}
use Rattle.cw_join.proofs.run.Pause.stronger.Goals as goal

pub returns-then-strength : goal.returns-then-strength
returns-then-strength c = grind (arith, common_steps)
