-- The notes from this place on are all those that were left.
use Rattle.std.proofs.Common.{◌≡◌, ◌-◌, ◌≤◌, length, drop}
use Rattle.cw_rules.specs.Bodies.{noted}
use Rattle.cw_rules.proofs.bodies.next_noted.Given as goal

abbrev pub invariant-loop-place : goal.invariant-loop-place
invariant-loop-place l = record {
  within : l.i.place ≤ length l.text;
  braces : l.i.braces ≤ l.i.place;
  value : noted l.i (drop l.i.place l.text) ≡ noted l.fn.inside (drop l.fn.inside.place l.text);
}

abbrev pub decreases-loop-place : goal.decreases-loop-place
decreases-loop-place l = length l.text - l.i.place
