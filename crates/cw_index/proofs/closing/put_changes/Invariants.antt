-- The changed sections so far are put, and those that are left follow.
use Rattle.cw_index.proofs.Terms.{◌+◌, drop, changed_from, printed_changes, Printing}
use Rattle.cw_index.proofs.ClosingLaws.{changes_left}
use Rattle.cw_index.proofs.closing.put_changes.Given as goal

abbrev pub invariant-loop-before : goal.invariant-loop-before
invariant-loop-before g l = Printing g.D.Desk.told (changes_left l.first (changed_from (l.before + 1) (drop l.before
    l.book.outline.sections))) (printed_changes (changed_from 1 l.book.outline.sections)) l.fn.sheet l.sheet
