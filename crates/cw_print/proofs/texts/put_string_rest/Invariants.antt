-- What is put so far, with what the rest of the string prints from its portion on, is what all of it prints.
use Rattle.cw_print.proofs.Terms.{◌≡◌, ◌++◌, length, rest_bytes, string_bytes}
use Rattle.cw_print.proofs.texts.put_string_rest.Given as goal

abbrev pub invariant-loop-rest : goal.invariant-loop-rest
invariant-loop-rest l = l.out ++ rest_bytes l.portion (string_bytes l.rest)
    ≡ l.fn.out ++ rest_bytes l.fn.first (string_bytes l.text)

abbrev pub decreases-loop-rest : goal.decreases-loop-rest
decreases-loop-rest l = length l.rest
