-- `reference`: answer at `Limbo`; said here, so that a wrong one fails at once.
use Rattle.cw_phase1.proofs.Terms.{arith, common_steps}
use Rattle.cw_phase1.proofs.roles.Part.reference.Goals as goal

pub returns-in-Limbo : goal.returns-in-Limbo
returns-in-Limbo c = grind (arith, common_steps)
