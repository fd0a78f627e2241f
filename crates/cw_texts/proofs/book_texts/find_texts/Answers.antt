-- A section more, or the end of memory.
use Rattle.cw_texts.proofs.Terms.{arith}
use Rattle.cw_texts.proofs.ComingLaws.{section-more, section-wanting}
use Rattle.cw_texts.proofs.book_texts.find_texts.Goals as goal

pub sections-preserved : goal.sections-preserved
sections-preserved c = section-more c.args.book.text.now c.args.book.uses.now c.args.book.outline.now.sections
    c.sections.begun c.sections.place c.sections.list c.find_section.new.list _
    (omega arith) c.in_ok-find_section.ensures.texts c.sections.invariant

pub returns-in_err-find_section-clause-same : goal.returns-in_err-find_section-clause-same
returns-in_err-find_section-clause-same c = section-wanting c.args.book.text.now c.args.book.uses.now
    c.args.book.outline.now.sections c.sections.begun c.sections.place c.sections.list c.find_section.new.list _
    (omega arith) c.in_err-find_section.ensures.none c.sections.invariant
