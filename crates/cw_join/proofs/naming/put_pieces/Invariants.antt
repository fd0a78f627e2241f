-- The pieces that are put, with those that are left, are the bytes of the name.
use Rattle.cw_join.proofs.Terms.{length}
use Rattle.cw_join.proofs.NameLaws.{PiecesPut}
use Rattle.cw_join.proofs.naming.put_pieces.Given as goal

abbrev pub invariant-pieces : goal.invariant-pieces
invariant-pieces g l = PiecesPut g.D.Desk.told l.fn.bytes l.rest l.fn.sheet l.sheet

abbrev pub decreases-pieces : goal.decreases-pieces
decreases-pieces g l = length l.rest
