-- The marks so far stand behind the occurrences; with those to come they are all.
use Rattle.cw_mini.proofs.Terms.{◌≡◌, drop, with_marks}
use Rattle.cw_mini.proofs.rows.add_marks.Given as goal

abbrev pub invariant-loop-mark : goal.invariant-loop-mark
invariant-loop-mark l = with_marks l.occurrences (drop l.mark-index l.mark-items) ≡ with_marks l.fn.occurrences l.marks
