-- `tick`: that what it leaves is whole; said here, so that a wrong one fails at once.
use Rattle.cw_base.proofs.Terms.{arith, common_steps}
use Rattle.cw_base.proofs.steps.KeptLedger.tick.Goals as goal

pub invariant_of-self : goal.invariant_of-self
invariant_of-self c = grind (arith, common_steps)
