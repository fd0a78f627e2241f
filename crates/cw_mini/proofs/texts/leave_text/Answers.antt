-- The text leaves its names and its marks.
use Rattle.cw_mini.proofs.Terms.{◌∙◌, ℕ, ◌++◌, ap, Book, Done, underlined, ref_done}
use Rattle.cw_mini.proofs.LeftLaws.{done-as, left-is}
use Rattle.cw_mini.proofs.texts.leave_text.Goals as goal

pub returns-clause-left : goal.returns-clause-left
returns-clause-left g c =
    let b : Book = c.args.book.now in
    let d : Done ℕ = ref_done c.args.text.now c.args.part b in
    let same = done-as c.args.text.now c.args.part b c.start-flags.result c.is_inner.result c.start-flags.ensures
    c.is_inner.ensures in
    left-is b c.translate_text.new.book c.args.part.section d (c.in_ok-translate_text.ensures.translates.names
    ∙ ap (λ (e : Done ℕ). e.names) same) (c.in_ok-translate_text.ensures.translates.occurrences ∙ ap
    (λ (e : Done ℕ). b.xrefs ++ underlined c.args.part.section e.marks) same) c.translate_text.ensures.translates.same
