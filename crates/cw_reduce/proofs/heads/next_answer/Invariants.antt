-- Without notes, the answers that are left are those that were to come.
use Rattle.cw_reduce.proofs.Terms.{◌≡◌, length, Stays, without_notes}
use Rattle.cw_reduce.proofs.heads.next_answer.Given as goal

abbrev pub invariant-loop-answer : goal.invariant-loop-answer
invariant-loop-answer l = (without_notes l.reader.coming ≡ without_notes l.initial.reader.coming)
    × Stays l.initial.reader.all l.reader.all

abbrev pub decreases-loop-answer : goal.decreases-loop-answer
decreases-loop-answer l = length l.reader.coming
