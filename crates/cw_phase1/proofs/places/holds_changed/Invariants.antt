-- No line so far is a changed one in the part: whether one is there is told by the lines that are left.
use Rattle.cw_phase1.proofs.Terms.{◌≡◌, ◌-◌, ◌≤◌, length, drop, offset, holds_changed}
use Rattle.cw_phase1.proofs.places.holds_changed.Given as goal

abbrev pub invariant-loop-i : goal.invariant-loop-i
invariant-loop-i l = record {
  within : l.i ≤ length l.web.lines;
  rest : holds_changed (drop l.i l.web.lines) (offset l.web.lines l.i) l.start l.«end»
      ≡ holds_changed l.web.lines 0 l.start l.«end»;
}

abbrev pub decreases-loop-i : goal.decreases-loop-i
decreases-loop-i l = length l.web.lines - l.i
