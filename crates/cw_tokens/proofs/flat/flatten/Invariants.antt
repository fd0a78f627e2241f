-- The items so far, with those that the walk still gives, are those before it and all of the tree.
use Rattle.cw_tokens.proofs.Terms.{◌+◌, ◌++◌, length, flat, unfolded, cut, size_from, size_above, items_are}
use Rattle.cw_tokens.proofs.Flattening.{ReadsFlat}
use Rattle.cw_tokens.proofs.flat.flatten.Given as goal

abbrev pub invariant-loop-place : goal.invariant-loop-place
invariant-loop-place l = ReadsFlat (cut 0 l.ends l.tokens) l.root l.list l.place l.items (items_are l.out.items)
    (items_are l.initial.out.items ++ flat (unfolded (cut 0 l.ends l.tokens) l.root))

abbrev pub decreases-loop-place : goal.decreases-loop-place
decreases-loop-place l =
    let lists = cut 0 l.ends l.tokens in
    size_from lists l.list l.place + size_above lists l.links l.root (length lists) l.list
