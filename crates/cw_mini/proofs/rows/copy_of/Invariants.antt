-- What is copied, with the occurrences to come, are all.
use Rattle.cw_mini.proofs.Terms.{◌≡◌, ◌++◌, drop}
use Rattle.cw_mini.proofs.rows.copy_of.Given as goal

abbrev pub invariant-loop-place : goal.invariant-loop-place
invariant-loop-place l = l.copy ++ drop l.place-index l.place-items ≡ l.occurrences
