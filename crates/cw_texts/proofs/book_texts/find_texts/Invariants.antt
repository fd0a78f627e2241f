-- The texts that are left stay the same.
use Rattle.cw_texts.proofs.Terms.{◌≡◌, ◌-◌, drop, length, left_in}
use Rattle.cw_texts.proofs.book_texts.find_texts.Given as goal

abbrev pub invariant-sections : goal.invariant-sections
invariant-sections l =
    left_in l.book l.begun (drop l.place l.list) ≡ left_in l.book l.fn.begun (drop l.fn.place l.fn.list)

abbrev pub decreases-sections : goal.decreases-sections
decreases-sections l = length l.book.outline.now.sections - l.begun
