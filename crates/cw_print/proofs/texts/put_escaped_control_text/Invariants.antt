-- What is put so far, with what the rest of the control text says escaped, is all of it escaped.
use Rattle.cw_print.proofs.Terms.{◌≡◌, ◌++◌, length, escaped, text_to_end}
use Rattle.cw_print.proofs.texts.put_escaped_control_text.Given as goal

abbrev pub invariant-loop-rest : goal.invariant-loop-rest
invariant-loop-rest l = l.out ++ escaped (text_to_end l.rest) ≡ l.initial.out ++ escaped (text_to_end l.text)

abbrev pub decreases-loop-rest : goal.decreases-loop-rest
decreases-loop-rest l = length l.rest
