-- `push`: clause `ok`; said here, so that a wrong one fails at once.
use Rattle.cw_base.proofs.Terms.{arith, common_steps}
use Rattle.cw_base.proofs.words.Words.push.Goals as goal

pub returns-clause-ok : goal.returns-clause-ok
returns-clause-ok c = grind (arith, common_steps)
