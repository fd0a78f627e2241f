-- `find_or_add`: clause `id` at `Some`; said here, so that a wrong one fails at once.
use Rattle.cw_names.proofs.Terms.{arith, common_steps}
use Rattle.cw_names.proofs.names.Names.find_or_add.Goals as goal

pub returns-in-Some-clause-id : goal.returns-in-Some-clause-id
returns-in-Some-clause-id c = grind (arith, common_steps)
