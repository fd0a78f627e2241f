-- The bytes so far are the same.
use Rattle.cw_names.proofs.Terms.{◌≡◌, ◌≤◌, ◌-◌, length, take}
use Rattle.cw_names.proofs.names.are_same.Given as goal

abbrev pub invariant-loop-k : goal.invariant-loop-k
invariant-loop-k l = record {
  within : l.k ≤ length l.first;
  lengths : length l.first ≡ length l.second;
  same : take l.k l.first ≡ take l.k l.second;
}

abbrev pub decreases-loop-k : goal.decreases-loop-k
decreases-loop-k l = length l.first - l.k
