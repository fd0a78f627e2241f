-- The part ends where it ends from this place on.
use Rattle.std.proofs.Common.{◌≡◌, ◌≤◌, ◌-◌, length}
use Rattle.cw_secnames.specs.model.Parts.{end_of_part}
use Rattle.cw_secnames.proofs.parts.end_of_part.Given as goal

abbrev pub invariant-loop-place : goal.invariant-loop-place
invariant-loop-place l =
    (end_of_part l.text l.place ≡ end_of_part l.text l.from) × (l.from ≤ l.place) × (l.place ≤ length l.text)

abbrev pub decreases-loop-place : goal.decreases-loop-place
decreases-loop-place l = length l.text - l.place
