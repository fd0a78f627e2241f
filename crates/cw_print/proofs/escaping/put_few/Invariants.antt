-- What is appended, and the bytes that are left, are all.
use Rattle.cw_print.proofs.Terms.{◌≡◌, ◌++◌, drop}
use Rattle.cw_print.proofs.escaping.put_few.Given as goal

abbrev pub invariant-loop-byte : goal.invariant-loop-byte
invariant-loop-byte l = l.out ++ drop l.byte-index l.bytes ≡ l.initial.out ++ l.bytes
