-- The bytes put so far, with those that are left escaped, are the text escaped.
use Rattle.cw_print.proofs.Terms.{◌≡◌, ◌++◌, drop, escaped}
use Rattle.cw_print.proofs.escaping.put_escaped.Given as goal

abbrev pub invariant-loop-byte : goal.invariant-loop-byte
invariant-loop-byte l = l.out ++ escaped (drop l.byte-index l.text) ≡ l.initial.out ++ escaped l.text
