-- What is put so far, with what the rest of the exponent prints, is the exponent.
use Rattle.cw_print.proofs.Terms.{◌≡◌, ◌++◌, length, exponent_bytes}
use Rattle.cw_print.proofs.constants.put_exponent.Given as goal

abbrev pub invariant-loop-rest : goal.invariant-loop-rest
invariant-loop-rest l = l.out ++ exponent_bytes l.rest ≡ l.initial.out ++ exponent_bytes l.bytes

abbrev pub decreases-loop-rest : goal.decreases-loop-rest
decreases-loop-rest l = length l.rest
