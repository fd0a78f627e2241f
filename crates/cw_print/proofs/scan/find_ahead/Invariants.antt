-- Whether the number has a token is told by the answers that are left, and which numbers lie ahead is known.
use Rattle.cw_print.proofs.ScanLaws.{Passes}
use Rattle.cw_print.proofs.scan.find_ahead.Given as goal

abbrev pub invariant-loop-place : goal.invariant-loop-place
invariant-loop-place l = Passes l.number l.answers l.place l.«end» l.from
