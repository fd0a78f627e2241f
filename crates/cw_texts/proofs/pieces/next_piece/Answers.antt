-- `next_piece`: that its loop keeps what it says; said here, so that a wrong one fails at once.
use Rattle.cw_texts.proofs.Terms.{arith, common_steps}
use Rattle.cw_texts.proofs.pieces.next_piece.Goals as goal

pub answers-preserved-in-Continue-1 : goal.answers-preserved-in-Continue-1
answers-preserved-in-Continue-1 c = grind (arith, common_steps)
