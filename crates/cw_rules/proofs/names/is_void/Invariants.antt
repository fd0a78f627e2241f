-- Behind the dots so far, the rest of the name tells whether it is void.
use Rattle.std.proofs.Common.{◌≡◌, ◌-◌, ◌≤◌, length, drop}
use Rattle.cw_rules.specs.Names.{uncoded, void_behind, is_void}
use Rattle.cw_rules.proofs.names.is_void.Given as goal

abbrev pub invariant-loop-at : goal.invariant-loop-at
invariant-loop-at l = record {
  within : l.at ≤ length l.name;
  dots : l.dots ≤ 3;
  value : void_behind l.dots (uncoded (drop l.at l.name)) ≡ is_void l.name;
}

abbrev pub decreases-loop-at : goal.decreases-loop-at
decreases-loop-at l = length l.name - l.at
