-- The pieces that are still to come are whole where all are, and only there.
use Rattle.cw_texpart.proofs.Terms.{All, length, IsWholePiece, tex_pieces_of}
use Rattle.cw_texpart.proofs.whole.is_whole.Given as goal

abbrev pub invariant-all : goal.invariant-all
invariant-all l = record {
  whole : All (IsWholePiece l.text) l.pieces → All (IsWholePiece l.text) (tex_pieces_of l.text l.fn.part);
  only : All (IsWholePiece l.text) (tex_pieces_of l.text l.fn.part) → All (IsWholePiece l.text) l.pieces;
}

abbrev pub decreases-all : goal.decreases-all
decreases-all l = length l.pieces
