-- `note_name`: answer behind `push`; said here, so that a wrong one fails at once.
use Rattle.cw_phase1.proofs.Terms.{arith, common_steps}
use Rattle.cw_phase1.proofs.phase.note_name.Goals as goal

pub returns-in_ok-push-2 : goal.returns-in_ok-push-2
returns-in_ok-push-2 c = grind (arith, common_steps)
