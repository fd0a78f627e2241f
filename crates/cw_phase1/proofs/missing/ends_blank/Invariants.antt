-- Blanks alone stand from here on, so what is before them decides.
use Rattle.cw_phase1.proofs.Terms.{◌≡◌, ◌≤◌, length, take, reverse, begins_blank}
use Rattle.cw_phase1.proofs.missing.ends_blank.Given as goal

abbrev pub invariant-loop-end : goal.invariant-loop-end
invariant-loop-end l = record {
  within : l.«end» ≤ length l.bytes;
  before : begins_blank (reverse (take l.«end» l.bytes)) ≡ begins_blank (reverse l.bytes);
}

abbrev pub decreases-loop-end : goal.decreases-loop-end
decreases-loop-end l = l.«end»
