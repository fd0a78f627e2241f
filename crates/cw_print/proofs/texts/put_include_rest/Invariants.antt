-- What is put so far, with what the rest of the include name prints from its portion on, is what all of it prints.
use Rattle.cw_print.proofs.Terms.{◌≡◌, ◌++◌, length, rest_bytes, include_bytes}
use Rattle.cw_print.proofs.texts.put_include_rest.Given as goal

abbrev pub invariant-loop-rest : goal.invariant-loop-rest
invariant-loop-rest l = l.out ++ rest_bytes l.portion (include_bytes l.rest)
    ≡ l.initial.out ++ rest_bytes l.initial.portion (include_bytes l.text)

abbrev pub decreases-loop-rest : goal.decreases-loop-rest
decreases-loop-rest l = length l.rest
