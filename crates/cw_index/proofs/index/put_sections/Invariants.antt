-- The sections so far are put.
use Rattle.cw_index.proofs.Terms.{drop, section_bytes, Printing}
use Rattle.cw_index.proofs.SectionLaws.{listed_bytes}
use Rattle.cw_index.proofs.index.put_sections.Given as goal

abbrev pub invariant-loop-section : goal.invariant-loop-section
invariant-loop-section g l = let f = section_bytes l.book.outline.sections in
    Printing g.D.Desk.told (listed_bytes f l.heading.underlined_only (drop l.section-index l.heading.sections.now))
    (listed_bytes f l.heading.underlined_only l.heading.sections.now) l.fn.sheet l.sheet
