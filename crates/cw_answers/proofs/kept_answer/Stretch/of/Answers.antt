-- `of`: clause `same`; said here, so that a wrong one fails at once.
use Rattle.cw_answers.proofs.Terms.{arith, common_steps}
use Rattle.cw_answers.proofs.kept_answer.Stretch.of.Goals as goal

pub returns-clause-same : goal.returns-clause-same
returns-clause-same c = grind (arith, common_steps)
