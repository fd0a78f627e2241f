-- A section is starred, or those behind it decide.
use Rattle.cw_index.proofs.Terms.{◌∙◌}
use Rattle.cw_index.proofs.ClosingLaws.{starred-here, starred-later}
use Rattle.cw_index.proofs.closing.has_starred.Goals as goal

pub returns-then-section : goal.returns-then-section
returns-then-section c = starred-here c.args.book.now.outline.sections c.loop-before.before c.section.result
    c.section.ensures c.if-section.true ∙ c.loop-before.invariant

pub loop-before-preserved : goal.loop-before-preserved
loop-before-preserved c = starred-later c.args.book.now.outline.sections c.loop-before.before c.section.result
    c.section.ensures c.if-section.false ∙ c.loop-before.invariant
