-- The texts to come leave, of the book so far, what all texts leave.
use Rattle.cw_mini.proofs.Terms.{◌≡◌, drop, lasting, left_by_texts}
use Rattle.cw_mini.proofs.texts.leave_each.Given as goal

abbrev pub invariant-loop-i : goal.invariant-loop-i
invariant-loop-i g l = record {
  left : left_by_texts l.text (drop l.i l.texts) l.book ≡ left_by_texts l.text l.texts l.fn.book;
  same : lasting l.book ≡ lasting l.fn.book;
}
