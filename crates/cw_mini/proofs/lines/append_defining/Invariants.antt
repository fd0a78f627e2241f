-- The sections so far, with those that are to come, are all.
use Rattle.cw_mini.proofs.Terms.{◌≡◌, ◌++◌, drop, flat_map, defining, defining_bytes}
use Rattle.cw_mini.proofs.lines.append_defining.Given as goal

abbrev pub invariant-loop-place : goal.invariant-loop-place
invariant-loop-place l = l.lines ++ flat_map (defining_bytes l.book.outline.sections) (defining (drop l.place-index
    l.sections)) ≡ l.fn.lines ++ flat_map (defining_bytes l.book.outline.sections) (defining l.sections)
