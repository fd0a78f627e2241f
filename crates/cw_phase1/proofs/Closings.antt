-- How many sections there are when the last one has ended.
use Rattle.cw_phase1.proofs.Terms.{◌≡◌, ℕ, ◌<◌, ◌≤◌, ◌^◌, List, arith, length, length-append, MergedLine, Sections}
use Rattle.cw_phase1.proofs.Terms.{section_total, closing}

pub few-sections : (lines : List MergedLine) (end : ℕ) (s t : Sections) → t ≡ record s { closed = closing lines end s }
    → section_total s ≤ 16777216 → length t.closed < 2 ^ 32
few-sections lines end s t is few = grind (arith, length-append)
