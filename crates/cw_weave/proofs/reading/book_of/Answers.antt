-- The mark on the last section changes no span.
use Rattle.cw_weave.proofs.Terms.{◌∙◌, sym, subst, All, text_of, Book, IsWholeSection}
use Rattle.cw_weave.proofs.MarkLaws.{all_whole}
use Rattle.cw_weave.proofs.reading.book_of.Goals.{then-flags, else-flags}
use Rattle.cw_weave.proofs.reading.book_of.Goals as goal

pub returns-clause-whole : goal.returns-clause-whole
returns-clause-whole c = elim c.if-flags.branch [
  | then-flags w ↦ subst (λ (b : Book). All (IsWholeSection (text_of c.args.web.now.lines)) b.outline.sections)
      (sym (w.book-is ∙ w.mark_last.ensures))
      (all_whole (text_of c.args.web.now.lines) c.in_ok-book.book.outline.sections c.in_ok-book.ensures.whole)
  | else-flags w ↦ subst (λ (b : Book). All (IsWholeSection (text_of c.args.web.now.lines)) b.outline.sections)
      (sym w.book-is) c.in_ok-book.ensures.whole
]
