-- The blanks so far, with those that are still to come, are those of the level.
use Rattle.cw_plain.proofs.Terms.{◌≡◌, ◌++◌, indent}
use Rattle.cw_plain.proofs.lines.put_indent.Given as goal

abbrev pub invariant-loop-left : goal.invariant-loop-left
invariant-loop-left l = l.out ++ indent l.left ≡ l.initial.out ++ indent l.level

abbrev pub decreases-loop-left : goal.decreases-loop-left
decreases-loop-left l = l.left
