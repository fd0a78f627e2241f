-- Where strings end.
use Rattle.std.specs.Prelude.{◌≡◌, ℕ, ◌+◌, Bool, true, false, not, ◌||◌, ◌==◌, List, [], ◌∷◌, ◌++◌, ◌⊎◌, codes}
use Rattle.std.specs.Prelude.{length}
use Rattle.std.specs.List.{AllByRecursion, concat}
use Rattle.cw_base.specs.Bytes.{newline, backslash}
use Rattle.cw_rules.specs.Bytes.{begins_with, is_mark}
use Rattle.cw_rules.specs.Prefixes.{is_prefix_letter}
use Rattle.cw_lex.specs.Lexing.{last_after}

-- A piece of the inside of a string: a backslash with the byte behind it, or a byte that is neither a backslash nor the
-- quote.
abbrev pub is_piece : ℕ → List ℕ → Bool
is_piece mark [] = false
is_piece mark (byte ∷ []) = not (byte == backslash || byte == mark)
is_piece mark (byte ∷ next ∷ []) = byte == backslash
is_piece mark (byte ∷ next ∷ more ∷ bytes) = false

-- A line's end goes on where a backslash stands before it: `before` is the byte before these.
abbrev pub LinesGoOn : ℕ → List ℕ → Type 0
LinesGoOn before [] = Unit {0}
LinesGoOn before (byte ∷ bytes) = (byte ≡ newline → before ≡ backslash) × LinesGoOn byte bytes

-- Behind so many bytes, of which `last` is the last one, a string of this size ends, where these bytes follow: with its
-- quote, before a line's end behind no backslash, or with the text, of which the last byte may be a backslash.
abbrev pub StringEnds : ℕ → ℕ → ℕ → ℕ → List ℕ → Type 0
StringEnds mark last inside size [] = size ≡ inside
StringEnds mark last inside size (byte ∷ bytes) =
    ((byte ≡ mark) × (size ≡ inside + 1))
    ⊎ (((byte ≡ newline) × ((last == backslash) ≡ false) × (size ≡ inside))
    ⊎ ((byte ≡ backslash) × (bytes ≡ []) × (size ≡ inside + 1)))

-- What may stand directly before a string's quote: nothing, L, u, U or u8.
abbrev pub is_prefix : List ℕ → Bool
is_prefix [] = true
is_prefix (byte ∷ []) = is_prefix_letter byte
is_prefix (byte ∷ next ∷ []) = begins_with (codes "u8") (byte ∷ next ∷ [])
is_prefix (byte ∷ next ∷ more ∷ bytes) = false

-- A string of this size stands before other bytes: its prefix, its quote, pieces, and its end.
pub record IsString (bytes : List ℕ) (size : ℕ) : Type 0 where
  pub prefix : List ℕ
  pub prefixed : is_prefix prefix ≡ true
  pub mark : ℕ
  pub quotes : is_mark mark ≡ true
  pub pieces : List (List ℕ)
  pub are : AllByRecursion (λ (piece : List ℕ). is_piece mark piece ≡ true) pieces
  pub lines : LinesGoOn mark (concat pieces)
  pub rest : List ℕ
  pub whole : bytes ≡ prefix ++ mark ∷ (concat pieces ++ rest)
  pub ends : StringEnds mark (last_after mark (concat pieces)) ((length prefix + 1) + length (concat pieces)) size rest
