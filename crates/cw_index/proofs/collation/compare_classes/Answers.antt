-- A byte decides, or the lengths do.
use Rattle.cw_index.proofs.Terms.{◌∙◌, sym, arith}
use Rattle.cw_index.proofs.OrderLaws.{from-decided, from-first, from-next, from-second}
use Rattle.cw_index.proofs.collation.compare_classes.Goals.{then-loop-i-test+else-i-second, else-loop-i-test}
use Rattle.cw_index.proofs.collation.compare_classes.Goals as goal

pub returns-then-is_ne : goal.returns-then-is_ne
returns-then-is_ne c = from-decided c.loop-i.i c.args.first.now c.args.second.now c.compare_bytes-order.result
    c.loop-i-test.true c.if-i-second.true c.compare_bytes-order.ensures (sym c.is_ne.ensures ∙ c.if-is_ne.true)
    ∙ c.loop-i.invariant.rest

pub loop-i-preserved : goal.loop-i-preserved
loop-i-preserved c = record {
  first = omega (arith, c.loop-i-test.true);
  second = omega (arith, c.if-i-second.true);
  rest = from-next c.loop-i.i c.args.first.now c.args.second.now c.compare_bytes-order.result c.loop-i-test.true
      c.if-i-second.true
      c.compare_bytes-order.ensures (sym c.is_ne.ensures ∙ c.if-is_ne.false) ∙ c.loop-i.invariant.rest;
}

pub returns : goal.returns
returns c = c.cmp.ensures ∙ elim c.loop-i-test.branch [
  | then-loop-i-test+else-i-second w ↦
      sym (from-second c.loop-i.i c.args.first.now c.args.second.now
      (omega (arith, w.if-i-second)) c.loop-i.invariant.second c.loop-i.invariant.first) ∙ c.loop-i.invariant.rest
  | else-loop-i-test w ↦
      sym (from-first c.loop-i.i c.args.first.now c.args.second.now
      (omega (arith, w.loop-i-test)) c.loop-i.invariant.first c.loop-i.invariant.second) ∙ c.loop-i.invariant.rest
]
