-- `take_answers`: clause `all`; said here, so that a wrong one fails at once.
use Rattle.cw_answers.proofs.Terms.{arith, common_steps}
use Rattle.cw_answers.proofs.reader.Reader.take_answers.Goals as goal

pub returns-clause-all : goal.returns-clause-all
returns-clause-all c = grind (arith, common_steps)
