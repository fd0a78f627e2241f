-- A result that is to be the same as a tested scrap's has the category of that scrap.
use Rattle.cw_scraps.proofs.RowPieces.{same-cat}
use Rattle.cw_scraps.proofs.pieces.result_cat.Goals as goal

pub returns-in-SameAs : goal.returns-in-SameAs
returns-in-SameAs c = same-cat _ _ _ _ _ c.behind.ensures c.in-SameAs.is
