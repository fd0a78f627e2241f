-- The lines of the scraps before this one are made.
use Rattle.cw_log.proofs.Terms.{◌≡◌, map, take, seen, line_of}
use Rattle.cw_log.proofs.telling.leaf_lines.Given as goal

abbrev pub invariant-loop-i : goal.invariant-loop-i
invariant-loop-i l = l.lines.items ≡ map line_of (map (seen l.store.lists) (take l.i l.line))
