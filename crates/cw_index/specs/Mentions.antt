-- The rows of the index: its entries in their order, each with the sections that are listed for it.
use Rattle.std.specs.Prelude.{ℕ, ◌+◌, ◌==◌, ◌&&◌, ◌||◌, Bool, true, false, nat_lt, List, [], ◌∷◌, length, filter}
use Rattle.std.specs.Prelude.{if◌then◌else◌}
use Rattle.std.specs.declared.cmp.Ordering.{Ordering}
use Rattle.std.specs.Ordering.{on}
use Rattle.cw_names.specs.declared.entry.EntryKind.{EntryKind}
use Rattle.cw_names.specs.declared.entry.EntryKind.TheVariants.{Ident}
use Rattle.cw_names.specs.declared.xrefs.Occurrence.{Occurrence}
use Rattle.cw_names.specs.declared.xrefs.SectionRef.{SectionRef}
use Rattle.cw_names.specs.Mentions.{mentions}
use Rattle.cw_names.specs.Names.{Entry}
use Rattle.cw_names.specs.Words.{built_in_words}
use Rattle.cw_index.specs.Collation.{entry_cmp}
use Rattle.cw_index.specs.Sorted.{sorted}

-- an entry, which is the name of this position, with the sections that are listed for it
pub record IndexRow : Type 0 where
  pub name : ℕ
  pub entry : Entry
  pub sections : List SectionRef

-- Identifiers of one byte, and the built-in words, which are the first names, are listed only where they are
-- underlined.
abbrev pub is_ident : EntryKind → Bool
is_ident Ident = true
is_ident _ = false

abbrev pub needs_underline : ℕ → Entry → Bool
needs_underline name entry = is_ident entry.kind && (nat_lt name (length built_in_words) || length entry.text == 1)

abbrev pub is_listed : Bool → SectionRef → Bool
is_listed underlined_only m = if underlined_only then m.underlined else true

abbrev pub listed : Bool → List SectionRef → List SectionRef
listed underlined_only ms = filter (is_listed underlined_only) ms

abbrev pub row : ℕ → Entry → List Occurrence → IndexRow
row name entry occurrences = record {
  name = name;
  entry = entry;
  sections = listed (needs_underline name entry) (mentions name occurrences);
}

-- An entry without sections is left out.
abbrev pub has_sections : List SectionRef → Bool
has_sections [] = false
has_sections (m ∷ ms) = true

abbrev pub with_row : Bool → IndexRow → List IndexRow → List IndexRow
with_row any row rows = if any then row ∷ rows else rows

-- the rows of the names from a position on
abbrev pub rows_from : ℕ → List Entry → List Occurrence → List IndexRow
rows_from name [] occurrences = []
rows_from name (entry ∷ entries) occurrences =
    with_row (has_sections (row name entry occurrences).sections) (row name entry occurrences)
    (rows_from (name + 1) entries occurrences)

abbrev pub row_cmp : IndexRow → IndexRow → Ordering
row_cmp = on (λ row. row.entry) entry_cmp

abbrev pub index_rows : List Entry → List Occurrence → List IndexRow
index_rows names occurrences = sorted row_cmp (rows_from 0 names occurrences)
