-- What is put so far, with what the letters that are left print, is the suffix.
use Rattle.cw_print.proofs.Terms.{◌≡◌, ◌++◌, drop, suffix}
use Rattle.cw_print.proofs.constants.put_suffix.Given as goal

abbrev pub invariant-loop-byte : goal.invariant-loop-byte
invariant-loop-byte l = l.out ++ suffix (drop l.byte-index l.bytes) ≡ l.initial.out ++ suffix l.bytes
