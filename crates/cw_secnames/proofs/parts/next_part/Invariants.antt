-- The parts from this place on are all parts that were asked for.
use Rattle.std.proofs.Common.{◌≡◌, ◌≤◌, ◌-◌, length}
use Rattle.cw_secnames.specs.model.Parts.{parts_at}
use Rattle.cw_secnames.proofs.parts.next_part.Given as goal

abbrev pub invariant-loop-place : goal.invariant-loop-place
invariant-loop-place l = (parts_at l.text l.place ≡ parts_at l.text l.from) × (l.from ≤ l.place)
    × (l.place ≤ length l.text)

abbrev pub decreases-loop-place : goal.decreases-loop-place
decreases-loop-place l = length l.text - l.place
