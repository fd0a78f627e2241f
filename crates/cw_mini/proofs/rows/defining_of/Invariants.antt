-- The sections so far, with those to come, are all.
use Rattle.cw_mini.proofs.Terms.{◌≡◌, ◌++◌, drop, defining, numbers}
use Rattle.cw_mini.proofs.rows.defining_of.Given as goal

abbrev pub invariant-loop-place : goal.invariant-loop-place
invariant-loop-place l =
    l.found.items ++ numbers (defining (drop l.place-index l.sections)) ≡ numbers (defining l.sections)
