-- The index is complete and says nothing else: it lists a section for a name exactly where the name occurs there, and
-- each row is of one name, with its entry.
use Rattle.std.specs.Prelude.{◌≡◌, ℕ, ◌==◌, ◌&&◌, All, Bool, true, IsTrue, List, ◌∷◌, ◌++◌, Some, length, slice_get}
use Rattle.std.specs.List.{IsDistinct, list_any}
use Rattle.std.specs.List.Sorted.{IsStrictlySortedBy}
use Rattle.cw_names.specs.declared.xrefs.Occurrence.{Occurrence}
use Rattle.cw_names.specs.declared.xrefs.SectionRef.{SectionRef}
use Rattle.cw_names.specs.Mentions.{AreAscending}
use Rattle.cw_names.specs.Names.{AreDistinct, Entry}
use Rattle.cw_index.specs.Mentions.{IndexRow, has_sections, index_rows, is_listed, needs_underline, row_cmp}

-- an occurrence, as a section that may be listed for it
abbrev pub as_mention : Occurrence → SectionRef
as_mention o = record { section = o.section; underlined = o.underlined }

-- whether one of these sections is this one, and underlined where that is asked for
abbrev pub is_at : Bool → ℕ → SectionRef → Bool
is_at underlined_only section m = m.section == section && is_listed underlined_only m

-- whether a name occurs in a section, underlined where that is asked for
abbrev pub occurs : Bool → ℕ → ℕ → List Occurrence → Bool
occurs underlined_only name section occurrences =
    list_any (λ o. o.name.index == name && is_at underlined_only section (as_mention o)) occurrences

-- whether a row is of this name and lists this section
abbrev pub lists : ℕ → ℕ → IndexRow → Bool
lists name section row = row.name == name && list_any (λ m. m.section == section) row.sections

-- Of names no two of which are alike, each is listed with just the sections in which it occurs; identifiers of one
-- byte and built-in words with those in which it is underlined.
abbrev pub IndexIsComplete : Type 0
IndexIsComplete = (before after : List Entry) (entry : Entry) (occurrences : List Occurrence) (section : ℕ)
    → AreDistinct (before ++ entry ∷ after)
    → list_any (lists (length before) section) (index_rows (before ++ entry ∷ after) occurrences)
    ≡ occurs (needs_underline (length before) entry) (length before) section occurrences

-- whether two rows are of the same name
abbrev pub are_of_one_name : IndexRow → IndexRow → Bool
are_of_one_name row other = row.name == other.name

-- what the rows of an index are, of these names and their occurrences
pub record AreRowsOf (names : List Entry) (occurrences : List Occurrence) (rows : List IndexRow) : Type 0 where
  -- the entry of a row, which is what the row prints, is that of its name
  pub entries : All (λ row. slice_get names row.name ≡ Some row.entry) rows
  -- no name has two rows
  pub once : IsDistinct are_of_one_name rows
  -- each row stands before all later ones by the order of entries
  pub order : IsStrictlySortedBy row_cmp rows
  -- each row lists a section
  pub some : All (λ row. IsTrue (has_sections row.sections)) rows
  -- its sections ascend, each once
  pub ascending : All (λ row. AreAscending row.sections) rows
  -- each of them is underlined just where the name has an underlined occurrence in it
  pub underlined : All (λ row. All (λ m. m.underlined ≡ occurs true row.name m.section occurrences) row.sections) rows

-- The rows of every index are so, whatever its names and their occurrences.
abbrev pub RowsAreOfNames : Type 0
RowsAreOfNames = (names : List Entry) (occurrences : List Occurrence)
    → AreRowsOf names occurrences (index_rows names occurrences)
