-- The rows so far, with those that are to come, are those of the section.
use Rattle.cw_mini.proofs.Terms.{◌≡◌, drop, index_rows, mini_rows}
use Rattle.cw_mini.proofs.RowPlaces.{rows_with}
use Rattle.cw_mini.proofs.rows.rows_of.Given as goal

abbrev pub invariant-loop-id : goal.invariant-loop-id
invariant-loop-id l = rows_with l.section l.places.occurrences.now l.rows (drop l.id-index (index_rows
    l.places.names.now l.places.occurrences.now)) ≡ mini_rows l.section l.places.names.now l.places.occurrences.now
