-- The rows of small indexes, as they lie in memory.
use Rattle.std.specs.Prelude.{◌≡◌, ℕ, zero, suc, ◌<◌, ◌≤◌, ◌&&◌, Bool, List, [], ◌∷◌, Vec, map, length}
use Rattle.std.specs.declared.alloc.Global.{Global}
use Rattle.cw_names.specs.declared.entry.NameId.{NameId}
use Rattle.cw_names.specs.declared.xrefs.SectionRef.{SectionRef}
use Rattle.cw_names.specs.Mentions.{mentions}
use Rattle.cw_names.specs.Names.{Entry}
use Rattle.cw_phase1.specs.declared.book.Book.{Book}
use Rattle.cw_tokens.specs.declared.flat.FlatItem.{FlatItem}
use Rattle.cw_tokens.specs.declared.flat.FlatItem.TheVariants.{Ident, Reserved}
use Rattle.cw_index.specs.Mentions.{IndexRow, has_sections}
use Rattle.cw_mini.specs.declared.places.Places.{Places}
use Rattle.cw_mini.specs.declared.rows.KeptRow.{KeptRow}
use Rattle.cw_mini.specs.Mini.{MiniRow, defining, is_own_name, is_used_in, section_rows}

abbrev pub kept_row : KeptRow → MiniRow
kept_row r = record { name = r.name.index; sections = r.sections.items }

-- where a name occurs
abbrev pub places_of : Places → NameId → List SectionRef
places_of p id = mentions id.index p.occurrences.now

-- whether sections that use a name list it
abbrev pub may_be_listed : Places → NameId → Entry → Bool
may_be_listed p id entry = is_own_name id.index entry && has_sections (defining (places_of p id))

-- whether a section is one of those
abbrev pub is_listed_by : Places → ℕ → NameId → Entry → Bool
is_listed_by p section id entry =
    may_be_listed p id entry && is_used_in section (places_of p id) (defining (places_of p id))

-- names by their positions
abbrev pub positions : List NameId → List ℕ
positions ids = map (λ id. id.index) ids

abbrev pub row_names : List IndexRow → List ℕ
row_names rows = map (λ row. row.name) rows

-- How names lie by sections: a list for each section up to the last, the first of them that of limbo.
abbrev pub names_at : ℕ → List (Vec NameId Global) → List ℕ
names_at section [] = []
names_at zero (list ∷ lists) = positions list.items
names_at (suc section) (list ∷ lists) = names_at section lists

-- Each section of a book has the names that it lists.
abbrev pub IsListingOf : Book → List (Vec NameId Global) → Type 0
IsListingOf b lists = (section : ℕ) → section ≤ length b.outline.sections
    → names_at section lists ≡ row_names (section_rows section b.names b.xrefs)

-- an identifier or a reserved word, which is one of so many names
abbrev pub IsWordOf : ℕ → FlatItem → Type 0
IsWordOf names (Ident name number) = name.index < names
IsWordOf names (Reserved name number) = name.index < names
IsWordOf names item = ⊥
