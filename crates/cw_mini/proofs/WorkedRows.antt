-- Worked rows: the small indexes of sections, over names and the places where they occur.
use Rattle.cw_mini.proofs.Terms.{◌≡◌, ℕ, List, [], ◌∷◌, ◌++◌, codes, refl, true, false, EntryKind, Ident, Roman}
use Rattle.cw_mini.proofs.Terms.{Occurrence, Entry, MiniRow, mini_rows}
use Rattle.cw_base.specs.declared.category.Cat.TheVariants.{Exp}
use Rattle.cw_names.specs.Words.{built_in_words}
use Rattle.cw_names.proofs.WordPlaces.{own, word}

abbrev entry : EntryKind → List ℕ → Entry
entry kind text = record { kind = kind; text = text; category = Exp }

abbrev ident : List ℕ → Entry
ident text = entry Ident text

abbrev used : ℕ → ℕ → Occurrence
used name section = record { name = record { index = name }; section = section; underlined = false }

-- underlined, or marked
abbrev defined : ℕ → ℕ → Occurrence
defined name section = record { name = record { index = name }; section = section; underlined = true }

abbrev line : ℕ → List ℕ → MiniRow
line name sections = record { name = name; sections = sections }

-- the rows of a section, where the web's own names are these entries
abbrev rows : ℕ → List Entry → List Occurrence → List MiniRow
rows section entries occurrences = mini_rows section (built_in_words ++ entries) occurrences

-- `int i;` and then `i=i+1;`. The section that defines a name doesn't list it.
abbrev one_name : List Occurrence
one_name = used (word "int") 1 ∷ used (own 0) 1 ∷ used (own 0) 2 ∷ used (own 0) 2 ∷ defined (own 0) 1 ∷ []

one_name_rows : (rows 1 (ident (codes "i") ∷ []) one_name ≡ [])
    × (rows 2 (ident (codes "i") ∷ []) one_name ≡ line (own 0) (1 ∷ []) ∷ [])
one_name_rows = (refl, refl)

-- `int i;`, then `int j; j=i;`, then `int i; i=j;`. The sections that define a name ascend, each once.
abbrev two_names : List Occurrence
two_names = used (own 0) 1 ∷ used (own 1) 2 ∷ used (own 1) 2 ∷ used (own 0) 2 ∷ used (own 0) 3 ∷ used (own 0) 3
    ∷ used (own 1) 3 ∷ defined (own 0) 3 ∷ defined (own 1) 2 ∷ defined (own 0) 1 ∷ defined (own 0) 3 ∷ []

two_names_rows : (rows 1 (ident (codes "i") ∷ ident (codes "j") ∷ []) two_names ≡ [])
    × (rows 2 (ident (codes "i") ∷ ident (codes "j") ∷ []) two_names ≡ line (own 0) (1 ∷ 3 ∷ []) ∷ [])
    × (rows 3 (ident (codes "i") ∷ ident (codes "j") ∷ []) two_names ≡ line (own 1) (2 ∷ []) ∷ [])
two_names_rows = (refl, refl, refl)

-- Entries stand in the order of the index: letters before digits, capitals with small letters.
order_row : rows 2 (ident (codes "a1") ∷ ident (codes "aB") ∷ ident (codes "a_") ∷ ident (codes "A") ∷ [])
    (defined (own 0) 1 ∷ defined (own 1) 1 ∷ defined (own 2) 1 ∷ defined (own 3) 1 ∷ used (own 0) 2 ∷ used (own 1) 2
    ∷ used (own 2) 2 ∷ used (own 3) 2 ∷ [])
    ≡ line (own 3) (1 ∷ []) ∷ line (own 2) (1 ∷ []) ∷ line (own 1) (1 ∷ []) ∷ line (own 0) (1 ∷ []) ∷ []
order_row = refl

-- A built-in word isn't listed, here `int`, nor is the text of an index code, nor a name that no section defines.
unlisted_row : rows 2 (entry Roman (codes "x") ∷ ident (codes "abc") ∷ [])
    (defined (word "int") 1 ∷ used (word "int") 2 ∷ defined (own 0) 1 ∷ used (own 0) 2 ∷ used (own 1) 1
    ∷ used (own 1) 2 ∷ []) ≡ []
unlisted_row = refl
