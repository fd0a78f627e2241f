-- `is_silent`: answer; said here, so that a wrong one fails at once.
use Rattle.cw_phase1.proofs.Terms.{arith, common_steps}
use Rattle.cw_phase1.proofs.pass_state.is_silent.Goals as goal

pub returns : goal.returns
returns c = grind (arith, common_steps)
