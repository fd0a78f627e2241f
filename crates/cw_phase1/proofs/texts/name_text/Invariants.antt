-- The bytes so far, and what the rest gives behind the white space that waits, are the text of the name.
use Rattle.cw_phase1.proofs.Terms.{◌≡◌, ◌-◌, ◌++◌, length, drop, uncoded, reduced, rest_of, is_begun}
use Rattle.cw_phase1.proofs.texts.name_text.Given as goal

abbrev pub invariant-loop-at : goal.invariant-loop-at
invariant-loop-at l = l.buffer.items ++ rest_of (is_begun l.buffer.items) l.blank (uncoded (drop l.at l.token))
    ≡ reduced (uncoded (drop 2 l.token))

abbrev pub decreases-loop-at : goal.decreases-loop-at
decreases-loop-at l = length l.token - l.at
