-- `answer`: answer at `Note`; said here, so that a wrong one fails at once.
use Rattle.cw_answers.proofs.Terms.{arith, common_steps}
use Rattle.cw_answers.proofs.kept_answer.KeptAnswer.answer.Goals as goal

pub returns-in-Note : goal.returns-in-Note
returns-in-Note c = grind (arith, common_steps)
