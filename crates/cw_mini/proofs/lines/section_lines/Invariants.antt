-- The lines of the names so far, with those of the rows to come, are those of the section.
use Rattle.cw_mini.proofs.Terms.{◌≡◌, ◌++◌, drop, flat_map, section_rows, row_line, section_lines}
use Rattle.cw_mini.proofs.lines.section_lines.Given as goal

abbrev pub invariant-loop-id : goal.invariant-loop-id
invariant-loop-id l = l.lines ++ flat_map (row_line l.book.outline.sections)
    (drop l.id-index (section_rows l.section l.book.names l.book.xrefs)) ≡ section_lines l.book l.section
