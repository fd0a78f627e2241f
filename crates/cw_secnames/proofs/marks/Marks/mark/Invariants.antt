-- What was marked is so still, and the beginnings of the text so far are marked where their lengths are kept.
use Rattle.cw_secnames.proofs.Marked.{Marking}
use Rattle.cw_secnames.proofs.marks.Marks.mark.Given as goal

abbrev pub invariant-loop-count : goal.invariant-loop-count
invariant-loop-count l = Marking l.fn.self l.self l.fn.kind l.text l.index l.count l.mark
