-- Nines stand from here on, which are zeros now, and one is carried over them; what is before them is as it was.
use Rattle.cw_texpart.proofs.Terms.{◌≡◌, ◌≤◌, true, drop, length, take, with_one}
use Rattle.cw_texpart.proofs.heads.successor.Given as goal

abbrev pub invariant-loop-at : goal.invariant-loop-at
invariant-loop-at l = record {
  within : l.at ≤ length l.digits.items;
  size : length l.digits.items ≡ length l.number;
  front : take l.at l.digits.items ≡ take l.at l.number;
  carried : with_one (drop l.at l.number) ≡ record { carried = true; digits = drop l.at l.digits.items };
}

abbrev pub decreases-loop-at : goal.decreases-loop-at
decreases-loop-at l = l.at
