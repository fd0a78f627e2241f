-- `all_positions`: that its loop begins with what it says; said here, so that a wrong one fails at once.
use Rattle.std.proofs.Common.{arith}
use Rattle.std.proofs.lemmas.Grind.{common_steps}
use Rattle.cw_secnames.proofs.name_marks.all_positions.Goals as goal

pub loop-index-init : goal.loop-index-init
loop-index-init c = grind (arith, common_steps)
