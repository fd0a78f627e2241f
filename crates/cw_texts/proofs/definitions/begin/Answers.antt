-- `begin`: clause `ended`; said here, so that a wrong one fails at once.
use Rattle.cw_texts.proofs.Terms.{arith, common_steps}
use Rattle.cw_texts.proofs.definitions.begin.Goals as goal

pub returns-clause-ended : goal.returns-clause-ended
returns-clause-ended c = grind (arith, common_steps)
