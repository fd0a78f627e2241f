-- The digits from here on say the same as all of them, and at least one is left.
use Rattle.cw_texpart.proofs.Terms.{◌≡◌, ◌-◌, ◌<◌, length, drop, drop_zeros}
use Rattle.cw_texpart.proofs.heads.without_zeros.Given as goal

abbrev pub invariant-loop-at : goal.invariant-loop-at
invariant-loop-at l = record {
  within : l.at < length l.digits;
  rest : drop_zeros (drop l.at l.digits) ≡ drop_zeros l.digits;
}

abbrev pub decreases-loop-at : goal.decreases-loop-at
decreases-loop-at l = length l.digits - l.at
