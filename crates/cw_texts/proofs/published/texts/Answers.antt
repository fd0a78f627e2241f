-- The texts of one section go behind those of the sections before.
use Rattle.cw_texts.proofs.Terms.{ap, ◌+◌, ◌++◌, ◌∙◌, arith, drop_all, is_printed, refs_from, texts_of}
use Rattle.cw_texts.proofs.RefLaws.{added, all-added, section-first}
use Rattle.cw_texts.proofs.published.texts.Goals as goal

pub loop-before-init : goal.loop-before-init
loop-before-init c = ap (λ list. list ++ texts_of c.text-text.result.now c.args.book.now.name_uses
    c.args.book.now.outline.sections) c.new_in-list.ensures

pub loop-before-preserved : goal.loop-before-preserved
loop-before-preserved c = added c.loop-before.list _ _ c.in_ok-add_section.ensures (section-first
    (is_printed c.text-text.result.now c.args.book.now.name_uses) c.text-text.result.now c.args.book.now.name_uses
    c.args.book.now.outline.sections c.loop-before.before c.section-section.result c.section-section.ensures)
    c.loop-before.invariant

pub returns : goal.returns
returns c = all-added (ap (refs_from (is_printed c.text-text.result.now c.args.book.now.name_uses)
    c.text-text.result.now c.args.book.now.name_uses (c.loop-before.before + 1))
    (drop_all c.loop-before.before c.args.book.now.outline.sections
    (omega (arith, c.loop-before-test.false, c.section_count-before-end.ensures)))) c.loop-before.invariant
    ∙ ap (λ text. texts_of text c.args.book.now.name_uses c.args.book.now.outline.sections) c.text-text.ensures.lines
