-- The pieces of a TeX part, answer by answer.
use Rattle.cw_texts.proofs.Terms.{◌≡◌, subst, List, [], ◌∷◌, Option, Some, None, GivesPiece, piece_is, TexPiece}
use Rattle.cw_texts.specs.declared.pieces.Piece.{Piece}

-- what the next piece tells of the pieces that were to come
pub gave : (old new : List TexPiece) (next : Option Piece) (piece : Piece) → GivesPiece old next new → next ≡ Some piece
    → old ≡ piece_is piece ∷ new
gave old new next piece gives is = subst (λ (n : Option Piece). GivesPiece old n new) is gives

pub ended : (old new : List TexPiece) (next : Option Piece) → GivesPiece old next new → next ≡ None → old ≡ []
ended old new next gives is = (subst (λ (n : Option Piece). GivesPiece old n new) is gives).0
