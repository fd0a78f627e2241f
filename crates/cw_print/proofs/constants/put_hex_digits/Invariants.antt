-- What is put so far, with what the rest of the hex digits prints, are the hex digits.
use Rattle.cw_print.proofs.Terms.{◌≡◌, ◌++◌, length, hex_digits}
use Rattle.cw_print.proofs.constants.put_hex_digits.Given as goal

abbrev pub invariant-loop-rest : goal.invariant-loop-rest
invariant-loop-rest l = l.out ++ hex_digits l.rest ≡ l.initial.out ++ hex_digits l.bytes

abbrev pub decreases-loop-rest : goal.decreases-loop-rest
decreases-loop-rest l = length l.rest
