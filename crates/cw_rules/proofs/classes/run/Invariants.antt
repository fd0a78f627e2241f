-- The bytes so far, and the run behind them, are the whole run.
use Rattle.std.proofs.Common.{◌≡◌, ◌+◌, ◌-◌, ◌≤◌, length, drop}
use Rattle.cw_rules.specs.Bytes.{run}
use Rattle.cw_rules.proofs.classes.run.Given as goal

abbrev pub invariant-loop-n : goal.invariant-loop-n
invariant-loop-n l = record {
  within : l.n ≤ length l.bytes;
  value : l.n + run l.class (drop l.n l.bytes) ≡ run l.class l.bytes;
}

abbrev pub decreases-loop-n : goal.decreases-loop-n
decreases-loop-n l = length l.bytes - l.n
