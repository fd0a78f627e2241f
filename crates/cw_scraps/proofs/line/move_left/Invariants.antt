-- The gap has moved left by the scraps moved so far, and the same scraps stand around it.
use Rattle.cw_scraps.proofs.Terms.{◌≡◌, ◌-◌, around}
use Rattle.cw_scraps.proofs.line.move_left.Given as goal

abbrev pub invariant-loop-moved : goal.invariant-loop-moved
invariant-loop-moved l = around (l.left - l.moved) (l.right - l.moved) l.items ≡ around l.left l.right l.initial.items
