-- `are_same`: that its loop begins with what it says; said here, so that a wrong one fails at once.
use Rattle.cw_names.proofs.Terms.{arith, common_steps}
use Rattle.cw_names.proofs.names.are_same.Goals as goal

pub loop-k-init : goal.loop-k-init
loop-k-init c = grind (arith, common_steps)
