-- The texts of a section come first behind the sections before it.
use Rattle.cw_texts.proofs.Terms.{ap, List, ◌++◌, ◌∙◌, TextRef, is_printed, section_refs}
use Rattle.cw_texts.proofs.ComingLaws.{section-found}
use Rattle.cw_texts.proofs.book_texts.find_section.Goals as goal

pub returns-in-Ok-clause-texts : goal.returns-in-Ok-clause-texts
returns-in-Ok-clause-texts c = section-found c.args.book.text.now c.args.book.uses.now c.args.book.outline.now.sections
    c.args.number c.section-section.result c.add_section.new.list c.requires.first c.section-section.ensures
    (c.in-Ok.ensures ∙ ap (λ (refs : List TextRef). refs ++ section_refs
    (is_printed c.args.book.text.now c.args.book.uses.now c.section-section.result) c.args.book.text.now
    c.args.book.uses.now c.args.number c.section-section.result) c.clear.ensures)
