-- A break that ends a text is passed over; every other item is moved to the front.
use Rattle.cw_tokens.proofs.Terms.{sym, ◌∙◌, arith, Source}
use Rattle.cw_tokens.proofs.Trimming.{back-kept, back-dropped}
use Rattle.cw_tokens.proofs.trim.keep_from_back.Goals.{then-not-drops_last, else-not-drops_last}
use Rattle.cw_tokens.proofs.trim.keep_from_back.Goals as goal

pub loop-i-preserved : goal.loop-i-preserved
loop-i-preserved c = rw c.already_ends-ends.ensures (elim c.if-not-drops_last.branch [
  | then-not-drops_last w ↦
      rw w.items-is (rw w.kept-is (back-kept c.args.items.now c.loop-i.items c.loop-i.i c.loop-i.kept c.loop-i.ends
      (Source 0) (omega arith) c.loop-i.invariant (sym c.drops_last.ensures ∙ w.if-not-drops_last.true)))
  | else-not-drops_last w ↦
      rw w.items-is (rw w.kept-is (back-dropped c.args.items.now c.loop-i.items c.loop-i.i c.loop-i.kept c.loop-i.ends
      (Source 0) (omega arith) c.loop-i.invariant (sym c.drops_last.ensures ∙ w.if-not-drops_last.false)))
])
