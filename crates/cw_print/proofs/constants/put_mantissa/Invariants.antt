-- What is put so far, with what the rest of the mantissa prints, is the mantissa.
use Rattle.cw_print.proofs.Terms.{◌≡◌, ◌++◌, length, mantissa_bytes}
use Rattle.cw_print.proofs.constants.put_mantissa.Given as goal

abbrev pub invariant-loop-rest : goal.invariant-loop-rest
invariant-loop-rest l = l.out ++ mantissa_bytes l.rest ≡ l.initial.out ++ mantissa_bytes l.bytes

abbrev pub decreases-loop-rest : goal.decreases-loop-rest
decreases-loop-rest l = length l.rest
