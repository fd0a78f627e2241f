-- Pieces of TeX parts, as they are handed on.
use Rattle.std.specs.Prelude.{◌≡◌, List, [], ◌∷◌, Option, Some, None}
use Rattle.cw_rules.specs.Answers.{seen}
use Rattle.cw_texts.specs.declared.pieces.Piece.{Piece}
use Rattle.cw_texts.specs.declared.pieces.Piece.TheVariants as forms
use Rattle.cw_texts.specs.TexPieces.{TexPiece, Copied, InnerText, Cited}

abbrev pub piece_is : Piece → TexPiece
piece_is (forms.Copied token) = Copied (seen token)
piece_is (forms.InnerText span) = InnerText span
piece_is (forms.Cited span) = Cited span

-- The first of the old pieces is this one, and the new ones are the rest; at the end there are none.
abbrev pub GivesPiece : List TexPiece → Option Piece → List TexPiece → Type 0
GivesPiece old (Some piece) new = old ≡ piece_is piece ∷ new
GivesPiece old None new = (old ≡ []) × (new ≡ [])
