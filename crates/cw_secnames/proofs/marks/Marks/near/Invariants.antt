-- Each name that is shorter than the bytes so far, and that they begin with, is found.
use Rattle.cw_secnames.proofs.Marked.{Found}
use Rattle.cw_secnames.proofs.marks.Marks.near.Given as goal

abbrev pub invariant-loop-count : goal.invariant-loop-count
invariant-loop-count l = Found l.self l.fn.kind l.text l.count l.mark l.start l.near.items
