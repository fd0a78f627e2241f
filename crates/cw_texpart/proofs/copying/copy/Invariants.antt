-- The bytes so far are copied.
use Rattle.cw_texpart.proofs.Terms.{◌-◌, slice_range, IsSameSheet, bytes_of, copied}
use Rattle.cw_texpart.proofs.LayingLaws.{Inking}
use Rattle.cw_texpart.proofs.copying.copy.Given as goal

abbrev pub invariant-loop-at : goal.invariant-loop-at
invariant-loop-at g l = let told = g.D.Desk.told in record {
  inked : Inking (copied l.text l.at (slice_range l.text l.at l.fn.span.«end»)) (copied l.text l.fn.span.start (bytes_of
      l.text l.fn.span)) l.fn.sheet.line.now l.sheet.line.now (told l.fn.sheet.desk.now) (told l.sheet.desk.now);
  same : IsSameSheet l.fn.sheet l.sheet;
}

abbrev pub decreases-loop-at : goal.decreases-loop-at
decreases-loop-at g l = l.«end» - l.at
