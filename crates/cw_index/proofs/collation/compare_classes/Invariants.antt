-- The bytes so far are of the same classes: what is behind them decides.
use Rattle.cw_index.proofs.Terms.{length, ◌-◌, ◌≡◌, ◌≤◌, drop, classes_cmp}
use Rattle.cw_index.proofs.collation.compare_classes.Given as goal

abbrev pub invariant-loop-i : goal.invariant-loop-i
invariant-loop-i l = record {
  first : l.i ≤ length l.first;
  second : l.i ≤ length l.second;
  rest : classes_cmp (drop l.i l.first) (drop l.i l.second) ≡ classes_cmp l.first l.second;
}

abbrev pub decreases-loop-i : goal.decreases-loop-i
decreases-loop-i l = length l.first - l.i
