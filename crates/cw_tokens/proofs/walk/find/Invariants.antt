-- No identifier stands before the place of the search, and nothing before it ends the search.
use Rattle.cw_tokens.proofs.Terms.{◌+◌, length, cut, Walks, size_from, size_above}
use Rattle.cw_tokens.proofs.walk.find.Given as goal

abbrev pub invariant-loop-place : goal.invariant-loop-place
invariant-loop-place l = Walks (cut 0 l.ends l.tokens) l.root l.list l.place

abbrev pub decreases-loop-place : goal.decreases-loop-place
decreases-loop-place l =
    let lists = cut 0 l.ends l.tokens in
    size_from lists l.list l.place + size_above lists l.links l.root (length lists) l.list
