-- The bytes so far, and what the rest of the control text stands for, are the text of the entry.
use Rattle.cw_phase1.proofs.Terms.{◌≡◌, ◌-◌, ◌++◌, length, drop, text_to_end}
use Rattle.cw_phase1.proofs.texts.entry_text.Given as goal

abbrev pub invariant-loop-at : goal.invariant-loop-at
invariant-loop-at l = l.buffer.items ++ text_to_end (drop l.at l.token) ≡ text_to_end (drop 2 l.token)

abbrev pub decreases-loop-at : goal.decreases-loop-at
decreases-loop-at l = length l.token - l.at
