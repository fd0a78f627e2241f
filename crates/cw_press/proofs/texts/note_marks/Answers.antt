-- Each mark goes behind those before it.
use Rattle.cw_press.proofs.Terms.{sym, ◌∙◌, arith, append-nil, on-err}
use Rattle.cw_press.proofs.TextLaws.{marked-all, marked-first, marked-next, marked-none}
use Rattle.cw_press.proofs.texts.note_marks.Goals as goal

pub returns-then-section-eq0-clause-ok : goal.returns-then-section-eq0-clause-ok
returns-then-section-eq0-clause-ok c = marked-none c.args.section _ c.args.xrefs.now c.if-section-eq0.true

pub loop-i-init : goal.loop-i-init
loop-i-init c = sym (append-nil c.args.xrefs.now)

pub loop-i-preserved : goal.loop-i-preserved
loop-i-preserved c = marked-next c.args.section c.args.marks.now.names c.loop-i.i c.name.result c.args.xrefs.now
    c.loop-i.xrefs c.note.new.self c.name.ensures c.loop-i.invariant c.in_ok-note.ensures.ok

pub returns-in_err-note-clause-err : goal.returns-in_err-note-clause-err
returns-in_err-note-clause-err c = on-err _ _ (marked-first c.args.section c.args.marks.now.names c.loop-i.i
    c.args.xrefs.now c.note.new.self c.if-section-eq0.false (c.in_err-note.ensures.err ∙ c.loop-i.invariant))

pub returns-clause-ok : goal.returns-clause-ok
returns-clause-ok c = marked-all c.args.section c.args.marks.now.names c.loop-i.i c.args.xrefs.now _
    c.if-section-eq0.false (omega (arith, c.len-i-end.ensures)) c.loop-i.invariant
