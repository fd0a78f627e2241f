-- The models beside `specs/Texts`.
use Rattle.std.specs.Prelude.{ℕ, Bool, true, false, ◌==◌, ◌||◌, List, [], ◌∷◌, Option, Some, None, length}
use Rattle.std.specs.Prelude.{nat_eq}
use Rattle.std.specs.Cmp.Lexicographic.{pointwise}
use Rattle.cw_phase1.specs.Texts.{blank_before, dots, reduced, single_blanks}

-- The reduced text of an ignored name is empty or `...`.
abbrev pub is_reduced_void : List ℕ → Bool
is_reduced_void text = length text == 0 || pointwise nat_eq text dots

-- ## A byte more of a name

-- What the rest of a name adds to its reduced text, where bytes of it came, and white space behind them.
abbrev pub rest_of : Bool → Bool → List ℕ → List ℕ
rest_of false blank bytes = reduced bytes
rest_of true false bytes = single_blanks bytes
rest_of true true bytes = blank_before (single_blanks bytes)

abbrev pub is_begun : List ℕ → Bool
is_begun [] = false
is_begun (byte ∷ bytes) = true

-- the byte that a piece of a name is, unless it is dropped
abbrev pub byte_of : Option ℕ → List ℕ
byte_of None = []
byte_of (Some byte) = byte ∷ []
