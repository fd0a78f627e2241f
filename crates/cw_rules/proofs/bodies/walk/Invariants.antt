-- From this place on the body stops where it did, and the notes met so far with those to come are all its notes.
use Rattle.std.proofs.Common.{◌≡◌, ◌-◌, ◌≤◌, length, drop}
use Rattle.cw_rules.specs.{Bodies.ended, Bodies.noted, Pending.IsInside, Pending.notes_so_far}
use Rattle.cw_rules.proofs.bodies.walk.Given as goal

abbrev pub invariant-loop-i : goal.invariant-loop-i
invariant-loop-i l = record {
  from : l.fn.inside.place ≤ l.i.place;
  within : l.i.place ≤ length l.text;
  braces : l.i.braces ≤ l.i.place;
  stop : ended l.i (drop l.i.place l.text) ≡ ended l.fn.inside (drop l.fn.inside.place l.text);
  inside : IsInside (length l.text) l.notes;
  notes : notes_so_far l.text l.notes l.i ≡ noted l.fn.inside (drop l.fn.inside.place l.text);
}

abbrev pub decreases-loop-i : goal.decreases-loop-i
decreases-loop-i l = length l.text - l.i.place
