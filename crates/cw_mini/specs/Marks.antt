-- Marks among the occurrences of names.
use Rattle.std.specs.Prelude.{true, List, ◌++◌, map}
use Rattle.cw_names.specs.declared.xrefs.Occurrence.{Occurrence}
use Rattle.cw_mini.specs.declared.marks.SectionMark.{SectionMark}

-- Each mark is an underlined occurrence in its section.
abbrev pub occurrence_of : SectionMark → Occurrence
occurrence_of m = record { name = m.name; section = m.section; underlined = true }

abbrev pub with_marks : List Occurrence → List SectionMark → List Occurrence
with_marks occurrences marks = occurrences ++ map occurrence_of marks
