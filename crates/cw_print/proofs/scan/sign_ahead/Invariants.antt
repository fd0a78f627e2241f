-- The number and those above it have their tokens ahead.
use Rattle.cw_print.proofs.Terms.{IsSeeking}
use Rattle.cw_print.proofs.scan.sign_ahead.Given as goal

abbrev pub invariant-loop-place : goal.invariant-loop-place
invariant-loop-place l = IsSeeking l.answers (record { place = l.place; «end» = l.fn.seek.«end»; from = l.number })
