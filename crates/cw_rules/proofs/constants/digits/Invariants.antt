-- The bytes so far, and the digits behind them, are all the digits.
use Rattle.std.proofs.Common.{◌≡◌, ◌+◌, ◌-◌, ◌≤◌, length, drop}
use Rattle.cw_rules.specs.Constants.{more_digits}
use Rattle.cw_rules.proofs.constants.digits.Given as goal

abbrev pub invariant-loop-n : goal.invariant-loop-n
invariant-loop-n l = record {
  within : l.n ≤ length l.bytes;
  value : l.n + more_digits l.class (drop l.n l.bytes) ≡ more_digits l.class l.bytes;
}

abbrev pub decreases-loop-n : goal.decreases-loop-n
decreases-loop-n l = length l.bytes - l.n
