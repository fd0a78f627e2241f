-- The first of the texts that are left.
use Rattle.cw_texts.proofs.Terms.{sym, ◌∙◌}
use Rattle.cw_texts.proofs.ComingLaws.{one-left}
use Rattle.cw_texts.proofs.book_texts.BookTexts.next.Goals as goal

pub returns-clause-gives : goal.returns-clause-gives
returns-clause-gives c = sym c.self.view_is ∙ (sym c.find_texts.ensures.same
    ∙ one-left c.self.inside.book.text.now c.self.inside.book.uses.now c.self.inside.book.outline.now.sections
    c.find_texts.new.begun c.find_texts.new.place c.find_texts.new.list c.text_ref-text.result c.text_ref-text.ensures)
