-- `wanted_by`: answer at `SilentFormat`; said here, so that a wrong one fails at once.
use Rattle.cw_reduce.proofs.Terms.{arith, common_steps}
use Rattle.cw_reduce.proofs.heads.wanted_by.Goals as goal

pub returns-in-Code-SilentFormat : goal.returns-in-Code-SilentFormat
returns-in-Code-SilentFormat c = grind (arith, common_steps)
