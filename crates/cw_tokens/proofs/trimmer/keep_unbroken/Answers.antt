-- A break of the gap is passed over, and every other item of it is moved to its front.
use Rattle.cw_tokens.proofs.Terms.{sym, ◌∙◌, arith, Source}
use Rattle.cw_tokens.proofs.Standing.{unbroken-start, unbroken-kept, unbroken-dropped}
use Rattle.cw_tokens.proofs.trimmer.keep_unbroken.Goals.{then-not-breaks, else-not-breaks}
use Rattle.cw_tokens.proofs.trimmer.keep_unbroken.Goals as goal

pub loop-i-init : goal.loop-i-init
loop-i-init c = unbroken-start c.args.items.now c.args.gap

pub loop-i-preserved : goal.loop-i-preserved
loop-i-preserved c = elim c.if-not-breaks.branch [
  | then-not-breaks w ↦
      rw w.items-is (rw w.kept-is (unbroken-kept c.args.items.now c.loop-i.items c.args.gap c.loop-i.i c.loop-i.kept
      (Source 0) (omega arith) c.loop-i.invariant (sym c.breaks.ensures ∙ w.if-not-breaks.true)))
  | else-not-breaks w ↦
      rw w.items-is (rw w.kept-is (unbroken-dropped c.args.items.now c.loop-i.items c.args.gap c.loop-i.i c.loop-i.kept
      (Source 0) (omega arith) c.loop-i.invariant (sym c.breaks.ensures ∙ w.if-not-breaks.false)))
]
