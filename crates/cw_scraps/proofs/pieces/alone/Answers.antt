-- Where several scraps are replaced, or the pieces aren't one, no scrap stays as it is.
use Rattle.cw_scraps.proofs.Terms.{sym, ◌∙◌}
use Rattle.cw_scraps.proofs.RowPieces.{alone-none}
use Rattle.cw_scraps.proofs.pieces.alone.Goals.{else-replaced-eq1-via-then-replaced-eq1+else-piece_count-eq1}
use Rattle.cw_scraps.proofs.pieces.alone.Goals.{else-replaced-eq1-via-else-replaced-eq1}
use Rattle.cw_scraps.proofs.pieces.alone.Goals as goal

pub returns-else-replaced-eq1 : goal.returns-else-replaced-eq1
returns-else-replaced-eq1 c = sym (elim c.else-replaced-eq1.branch [
  | else-replaced-eq1-via-then-replaced-eq1+else-piece_count-eq1 w ↦
      alone-none _ _ (λ one len. w.if-piece_count-eq1.false (w.piece_count.ensures.count ∙ len))
  | else-replaced-eq1-via-else-replaced-eq1 w ↦ alone-none _ _ (λ one len. w.if-replaced-eq1.false (c.replaced.ensures
      ∙ one))
])
