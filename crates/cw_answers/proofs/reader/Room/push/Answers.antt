-- `push`: answer on one of its ways; said here, so that a wrong one fails at once.
use Rattle.cw_answers.proofs.Terms.{arith, common_steps}
use Rattle.cw_answers.proofs.reader.Room.push.Goals as goal

pub returns-then-self : goal.returns-then-self
returns-then-self c = grind (arith, common_steps)
