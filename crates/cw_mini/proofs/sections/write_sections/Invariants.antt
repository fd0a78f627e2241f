-- The lines of the sections so far are written, and those of the sections to come are left.
use Rattle.cw_mini.proofs.Terms.{◌+◌, ◌-◌, length, flat_map, range_with_len, book_lines, section_lines}
use Rattle.cw_mini.proofs.Writing.{Writing}
use Rattle.cw_mini.proofs.sections.write_sections.Given as goal

abbrev pub invariant-loop-before : goal.invariant-loop-before
invariant-loop-before g l = let told = g.D.Desk.told in
    Writing (flat_map (section_lines l.book) (range_with_len (l.before + 1)
    (length l.book.outline.sections - l.before))) (book_lines l.book) (told l.fn.desk) (told l.desk)
