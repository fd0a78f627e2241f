-- The pieces so far are woven.
use Rattle.cw_texpart.proofs.Terms.{◌≡◌, All, length, IsSameSheet, tex_setting, IsWholePiece, pieces_done}
use Rattle.cw_texpart.proofs.Terms.{tex_pieces_of, lasting, press}
use Rattle.cw_texpart.proofs.WeavingLaws.{Weaving}
use Rattle.cw_texpart.proofs.tex_parts.put_pieces.Given as goal

abbrev pub invariant-all : goal.invariant-all
invariant-all g l = let told = g.D.Desk.told in record {
  woven : Weaving (tex_setting l.fn.t (lasting l.fn.book)) l.pieces (pieces_done
      (tex_setting l.fn.t (lasting l.fn.book)) (tex_pieces_of l.fn.t.text l.fn.part) l.fn.book.names) (press told
      l.fn.book l.fn.sheet l.fn.steps) (press told l.book l.sheet l.steps) l.counts.scraps l.counts.productions;
  same : l.t ≡ l.fn.t;
  sheet : IsSameSheet l.fn.sheet l.sheet;
  whole : All (IsWholePiece l.fn.t.text) l.pieces;
}

abbrev pub decreases-all : goal.decreases-all
decreases-all g l = length l.pieces
