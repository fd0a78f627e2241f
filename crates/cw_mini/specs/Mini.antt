-- The small index of a section: the rows of the index whose names the section uses and others define.
use Rattle.std.specs.Prelude.{ℕ, ◌==◌, ◌&&◌, Bool, not, nat_lt, List, length, map, filter}
use Rattle.std.specs.List.{list_any}
use Rattle.cw_names.specs.declared.xrefs.Occurrence.{Occurrence}
use Rattle.cw_names.specs.declared.xrefs.SectionRef.{SectionRef}
use Rattle.cw_names.specs.Mentions.{mentions}
use Rattle.cw_names.specs.Names.{Entry}
use Rattle.cw_names.specs.Words.{built_in_words}
use Rattle.cw_index.specs.Mentions.{IndexRow, has_sections, index_rows, is_ident}

-- A name is defined in the sections in which it is underlined.
abbrev pub defining : List SectionRef → List SectionRef
defining ms = filter (λ m. m.underlined) ms

abbrev pub stands_in : ℕ → List SectionRef → Bool
stands_in section ms = list_any (λ m. m.section == section) ms

-- an identifier that is no built-in word
abbrev pub is_own_name : ℕ → Entry → Bool
is_own_name name entry = is_ident entry.kind && not (nat_lt name (length built_in_words))

-- It is listed in a section in which it occurs, and isn't defined, where it is defined in any.
abbrev pub is_used_in : ℕ → List SectionRef → List SectionRef → Bool
is_used_in section occurring defined = stands_in section occurring && not (stands_in section defined)

abbrev pub is_listed_in : ℕ → List Occurrence → IndexRow → Bool
is_listed_in section occurrences row =
    (is_own_name row.name row.entry && has_sections (defining row.sections))
    && is_used_in section (mentions row.name occurrences) (defining row.sections)

-- The rows of the index that a section has, by the names of a book and where they occur. A mark is an underlined
-- occurrence.
abbrev pub section_rows : ℕ → List Entry → List Occurrence → List IndexRow
section_rows section names occurrences = filter (is_listed_in section occurrences) (index_rows names occurrences)

-- a name, with the sections that define it, ascending, each once
pub record MiniRow : Type 0 where
  pub name : ℕ
  pub sections : List ℕ

abbrev pub numbers : List SectionRef → List ℕ
numbers ms = map (λ m. m.section) ms

abbrev pub mini_row : IndexRow → MiniRow
mini_row row = record { name = row.name; sections = numbers (defining row.sections) }

abbrev pub mini_rows : ℕ → List Entry → List Occurrence → List MiniRow
mini_rows section names occurrences = map mini_row (section_rows section names occurrences)
