-- The next mark stands behind the occurrences; said here, so that a wrong one fails at once.
use Rattle.cw_mini.proofs.MarkLaws.{marks-next}
use Rattle.cw_mini.proofs.rows.add_marks.Goals as goal

pub loop-mark-preserved : goal.loop-mark-preserved
loop-mark-preserved c = marks-next c.loop-mark.occurrences c.note.new.self _ c.as_slice-mark-items.result.now
    c.loop-mark.mark-index _ c.loop-mark-test.true c.in_ok-note.ensures.ok c.loop-mark.invariant
