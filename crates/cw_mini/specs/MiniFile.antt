-- The lines of small indexes: for each section a line with its number, and behind it a line for each of its rows.
use Rattle.std.specs.Prelude.{ℕ, List, ◌++◌, codes, decimal, length}
use Rattle.std.specs.List.{flat_map, range_with_len}
use Rattle.cw_phase1.specs.declared.book.Book.{Book}
use Rattle.cw_phase1.specs.declared.sections.Section.{Section}
use Rattle.cw_names.specs.declared.xrefs.SectionRef.{SectionRef}
use Rattle.cw_print.specs.Sources.{is_changed}
use Rattle.cw_print.specs.Walk.{section_number}
use Rattle.cw_index.specs.Index.{entry_bytes}
use Rattle.cw_index.specs.Mentions.{IndexRow}
use Rattle.cw_mini.specs.Mini.{defining, section_rows}

-- a section that defines a name, with `\*` where it holds a changed line
abbrev pub defining_bytes : List Section → SectionRef → List ℕ
defining_bytes sections m = codes ", " ++ section_number m.section (is_changed sections m.section)

abbrev pub row_line : List Section → IndexRow → List ℕ
row_line sections row =
    entry_bytes row.entry ++ (flat_map (defining_bytes sections) (defining row.sections) ++ codes ".\n")

abbrev pub head_line : ℕ → List ℕ
head_line section = codes "section " ++ (decimal section ++ codes "\n")

abbrev pub section_lines : Book → ℕ → List ℕ
section_lines b section =
    head_line section ++ flat_map (row_line b.outline.sections) (section_rows section b.names b.xrefs)

-- the lines of all sections of a book whose texts are translated
abbrev pub book_lines : Book → List ℕ
book_lines b = flat_map (section_lines b) (range_with_len 1 (length b.outline.sections))
