-- `grade`: answer in the last case; said here, so that a wrong one fails at once.
use Rattle.cw_base.proofs.Terms.{arith, common_steps}
use Rattle.cw_base.proofs.notes.NoteKind.grade.Goals as goal

pub returns-in_default : goal.returns-in_default
returns-in_default c = grind (arith, common_steps)
