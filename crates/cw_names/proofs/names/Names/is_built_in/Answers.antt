-- `is_built_in`: answer; said here, so that a wrong one fails at once.
use Rattle.cw_names.proofs.Terms.{arith, common_steps}
use Rattle.cw_names.proofs.names.Names.is_built_in.Goals as goal

pub returns : goal.returns
returns c = grind (arith, common_steps)
