-- No section code stands before the place.
use Rattle.cw_print.proofs.Terms.{◌≡◌, ◌++◌, take, drop, until_section}
use Rattle.cw_print.proofs.scan.section_place.Given as goal

abbrev pub invariant-loop-place : goal.invariant-loop-place
invariant-loop-place l = take l.place l.answers ++ until_section (drop l.place l.answers) ≡ until_section l.answers
