-- `len`: answer; said here, so that a wrong one fails at once.
use Rattle.cw_answers.proofs.Terms.{arith, common_steps}
use Rattle.cw_answers.proofs.answers.Answers.len.Goals as goal

pub returns : goal.returns
returns c = grind (arith, common_steps)
