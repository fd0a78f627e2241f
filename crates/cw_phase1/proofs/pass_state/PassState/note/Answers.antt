-- `note`: answer on one of its ways; said here, so that a wrong one fails at once.
use Rattle.cw_phase1.proofs.Terms.{arith, common_steps}
use Rattle.cw_phase1.proofs.pass_state.PassState.note.Goals as goal

pub returns-then-is_unended : goal.returns-then-is_unended
returns-then-is_unended c = grind (arith, common_steps)
