-- `put`: clause `ok`; said here, so that a wrong one fails at once.
use Rattle.cw_names.proofs.Terms.{arith, common_steps}
use Rattle.cw_names.proofs.xrefs.put.Goals as goal

pub returns-clause-ok : goal.returns-clause-ok
returns-clause-ok c = grind (arith, common_steps)
