-- The bytes so far are the wanted ones, so what is behind them decides.
use Rattle.std.proofs.Common.{◌≡◌, ◌-◌, ◌≤◌, length, drop}
use Rattle.cw_rules.specs.Bytes.{begins_with}
use Rattle.cw_rules.proofs.classes.begins_with.Given as goal

abbrev pub invariant-loop-k : goal.invariant-loop-k
invariant-loop-k l = record {
  within : l.k ≤ length l.bytes;
  value : begins_with (drop l.k l.wanted) (drop l.k l.bytes) ≡ begins_with l.wanted l.bytes;
}

abbrev pub decreases-loop-k : goal.decreases-loop-k
decreases-loop-k l = length l.wanted - l.k
