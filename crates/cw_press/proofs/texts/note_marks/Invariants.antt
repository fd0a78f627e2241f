-- The marks so far are noted.
use Rattle.cw_press.proofs.Terms.{◌≡◌, ◌++◌, map, take, mark}
use Rattle.cw_press.proofs.texts.note_marks.Given as goal

abbrev pub invariant-loop-i : goal.invariant-loop-i
invariant-loop-i l = l.xrefs ≡ l.fn.xrefs ++ map (mark l.section) (take l.i l.marks.names)
