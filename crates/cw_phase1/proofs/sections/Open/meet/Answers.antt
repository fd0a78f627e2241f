-- `meet`: answer on one of its ways; said here, so that a wrong one fails at once.
use Rattle.cw_phase1.proofs.Terms.{arith, common_steps}
use Rattle.cw_phase1.proofs.sections.Open.meet.Goals as goal

pub returns-then-ends_definitions : goal.returns-then-ends_definitions
returns-then-ends_definitions c = grind (arith, common_steps)
