-- `has_any`: answer on one of its ways; said here, so that a wrong one fails at once.
use Rattle.cw_index.proofs.Terms.{arith, common_steps}
use Rattle.cw_index.proofs.standing.has_any.Goals as goal

pub returns-in-empty : goal.returns-in-empty
returns-in-empty c = grind (arith, common_steps)
