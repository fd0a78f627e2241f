-- The notes so far, with those on the names that are left, are those on all names.
use Rattle.cw_phase1.proofs.Terms.{◌≡◌, ◌++◌, drop, name_notes, name_notes_from}
use Rattle.cw_phase1.proofs.phase.note_names.Given as goal

abbrev pub invariant-loop-k : goal.invariant-loop-k
invariant-loop-k l = l.notes ++ name_notes_from l.k (drop l.k l.names) ≡ l.fn.notes ++ name_notes l.names
