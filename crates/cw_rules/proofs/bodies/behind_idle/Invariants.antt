-- The bytes passed so far change neither where the body stops nor which notes it has.
use Rattle.std.proofs.Common.{◌≡◌, ◌-◌, ◌≤◌, length, drop}
use Rattle.cw_rules.specs.Bodies.{ended, noted}
use Rattle.cw_rules.proofs.bodies.behind_idle.Given as goal

abbrev pub invariant-loop-i : goal.invariant-loop-i
invariant-loop-i l = record {
  from : l.fn.inside.place ≤ l.i.place;
  within : l.i.place ≤ length l.text;
  braces : l.i.braces ≤ l.i.place;
  stop : ended l.i (drop l.i.place l.text) ≡ ended l.fn.inside (drop l.fn.inside.place l.text);
  notes : noted l.i (drop l.i.place l.text) ≡ noted l.fn.inside (drop l.fn.inside.place l.text);
}

abbrev pub decreases-loop-i : goal.decreases-loop-i
decreases-loop-i l = length l.text - l.i.place
