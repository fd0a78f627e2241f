-- A mark, or a break that begins a text, is passed over; every other item is moved to the front.
use Rattle.cw_tokens.proofs.Terms.{sym, ◌∙◌, arith, Source}
use Rattle.cw_tokens.proofs.Trimming.{front-kept, front-dropped}
use Rattle.cw_tokens.proofs.trim.keep_from_front.Goals.{then-not-drops, else-not-drops}
use Rattle.cw_tokens.proofs.trim.keep_from_front.Goals as goal

pub loop-i-preserved : goal.loop-i-preserved
loop-i-preserved c = elim c.if-not-drops.branch [
  | then-not-drops w ↦
      rw w.items-is (rw w.kept-is (rw w.begins-is (rw w.still_begins-begins.ensures
      (front-kept c.args.items.now c.loop-i.items c.loop-i.i c.loop-i.kept c.loop-i.begins (Source 0)
      (omega arith) c.loop-i.invariant (sym c.drops.ensures ∙ w.if-not-drops.true)))))
  | else-not-drops w ↦
      rw w.items-is
      (rw w.kept-is (rw w.begins-is (front-dropped c.args.items.now c.loop-i.items c.loop-i.i c.loop-i.kept
      c.loop-i.begins (Source 0) (omega arith) c.loop-i.invariant (sym c.drops.ensures ∙ w.if-not-drops.false))))
]
