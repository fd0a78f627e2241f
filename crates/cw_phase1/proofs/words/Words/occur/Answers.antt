-- `occur`: clause `ok`; said here, so that a wrong one fails at once.
use Rattle.cw_phase1.proofs.Terms.{arith, common_steps}
use Rattle.cw_phase1.proofs.words.Words.occur.Goals as goal

pub returns-clause-ok : goal.returns-clause-ok
returns-clause-ok c = grind (arith, common_steps)
