-- Words over byte texts that several crates speak of.
use Rattle.std.specs.Prelude.{ℕ, ◌+◌, ◌==◌, ◌||◌, Bool, true, false, List, [], ◌∷◌, Option, Some, None, map}
use Rattle.cw_base.specs.Bytes.{byte_of, tab, newline, vertical_tab, form_feed, carriage_return, space}

-- the sign that stands around C text in TeX text
abbrev pub bar : ℕ
bar = byte_of "|"

-- a blank: a space, a tab, or another byte of white space that ends no line
abbrev pub is_blank : ℕ → Bool
is_blank byte =
    byte == space || byte == tab || byte == vertical_tab || byte == form_feed || byte == carriage_return

-- The bytes cut at each line's end. A last piece that isn't empty and has no end is a piece too.
abbrev pub pieces_by : Bool → ℕ → List (List ℕ) → List (List ℕ)
pieces_by true byte pieces = [] ∷ pieces
pieces_by false byte [] = (byte ∷ []) ∷ []
pieces_by false byte (piece ∷ pieces) = (byte ∷ piece) ∷ pieces

abbrev pub pieces_of : List ℕ → List (List ℕ)
pieces_of [] = []
pieces_of (byte ∷ bytes) = pieces_by (byte == newline) byte (pieces_of bytes)

-- A text without its trailing blanks.
abbrev pub trim_by : Bool → ℕ → List ℕ → List ℕ
trim_by true byte [] = []
trim_by true byte (next ∷ rest) = byte ∷ next ∷ rest
trim_by false byte rest = byte ∷ rest

abbrev pub trimmed : List ℕ → List ℕ
trimmed [] = []
trimmed (byte ∷ bytes) = trim_by (is_blank byte) byte (trimmed bytes)

-- The lines of a file: its pieces without their trailing blanks.
abbrev pub lines_of : List ℕ → List (List ℕ)
lines_of bytes = map trimmed (pieces_of bytes)

-- The place of the last element that passes a test, where one does.
abbrev pub later_place : Option ℕ → Bool → Option ℕ
later_place (Some i) passes = Some (i + 1)
later_place None true = Some 0
later_place None false = None

abbrev pub last_place : {X : Type 0} → (X → Bool) → List X → Option ℕ
last_place test [] = None
last_place test (x ∷ xs) = later_place (last_place test xs) (test x)
