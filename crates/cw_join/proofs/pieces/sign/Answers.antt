-- `sign`: answer at `CommentEnd` and answer at `ToMath`; said here, so that a wrong one fails at once.
use Rattle.cw_join.proofs.Terms.{arith, common_steps}
use Rattle.cw_join.proofs.pieces.sign.Goals as goal

pub returns-in-CommentEnd : goal.returns-in-CommentEnd
returns-in-CommentEnd c = grind (arith, common_steps)

pub returns-in-ToMath : goal.returns-in-ToMath
returns-in-ToMath c = grind (arith, common_steps)
