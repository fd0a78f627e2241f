-- `add_wholes`: answer on one of its ways; said here, so that a wrong one fails at once.
use Rattle.std.proofs.Common.{arith}
use Rattle.std.proofs.lemmas.Grind.{common_steps}
use Rattle.cw_secnames.proofs.marks.Marks.add_wholes.Goals as goal

pub returns-then-count-self : goal.returns-then-count-self
returns-then-count-self c = grind (arith, common_steps)
