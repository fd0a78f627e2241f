-- `format_list`: clause `last`; said here, so that a wrong one fails at once.
use Rattle.cw_reduce.proofs.Terms.{arith, common_steps}
use Rattle.cw_reduce.proofs.heads.format_list.Goals as goal

pub returns-clause-last : goal.returns-clause-last
returns-clause-last c = grind (arith, common_steps)
