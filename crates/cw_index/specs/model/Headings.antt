-- The rows of the index as they lie in memory.
use Rattle.std.specs.Prelude.{◌≡◌, Bool, List, Some, slice_get, if◌then◌else◌}
use Rattle.std.specs.BTreeSet.{insert_key}
use Rattle.std.specs.declared.cmp.Ordering.{Ordering}
use Rattle.std.specs.Ordering.{nat_cmp, on, then_cmp}
use Rattle.cw_names.specs.Names.{Entry}
use Rattle.cw_index.specs.Collation.{entry_kind_place, text_cmp}
use Rattle.cw_index.specs.declared.collation.Collated.{Collated}
use Rattle.cw_index.specs.declared.heading.Heading.{Heading}
use Rattle.cw_index.specs.Mentions.{IndexRow, has_sections, listed, row_cmp}

abbrev pub collated_cmp : Collated → Collated → Ordering
collated_cmp = then_cmp (on (λ c. c.text.now) text_cmp) (on (λ c. c.kind) (on entry_kind_place nat_cmp))

abbrev pub entry_of : Heading → Entry
entry_of h = record { kind = h.collated.kind; text = h.collated.text.now; category = h.category }

abbrev pub row_of : Heading → IndexRow
row_of h = record { name = h.id.index; entry = entry_of h; sections = listed h.underlined_only h.sections.now }

-- a row at its place, if it has sections
abbrev pub entered_by : Bool → IndexRow → List IndexRow → List IndexRow
entered_by any row rows = if any then insert_key row_cmp rows row else rows

abbrev pub entered : IndexRow → List IndexRow → List IndexRow
entered row rows = entered_by (has_sections row.sections) row rows

-- A heading is that of its name.
abbrev pub IsNamed : List Entry → Heading → Type 0
IsNamed names h = slice_get names h.id.index ≡ Some (entry_of h)
