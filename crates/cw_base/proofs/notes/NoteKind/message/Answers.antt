-- `message`: answer at `StringUnended`; said here, so that a wrong one fails at once.
use Rattle.cw_base.proofs.Terms.{arith, common_steps}
use Rattle.cw_base.proofs.notes.NoteKind.message.Goals as goal

pub returns-in-StringUnended : goal.returns-in-StringUnended
returns-in-StringUnended c = grind (arith, common_steps)
