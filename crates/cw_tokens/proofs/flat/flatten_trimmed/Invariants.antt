-- The trimmer stands for the items that the walk has given; with those to come they are all of the tree.
use Rattle.cw_tokens.proofs.Terms.{[], ◌+◌, reverse, flat, TrimsAhead, size_of, tree_in, trees_from, unfolded, cut}
use Rattle.cw_tokens.proofs.Terms.{size}
use Rattle.cw_tokens.proofs.flat.flatten_trimmed.Given as goal

abbrev pub invariant-loop-above : goal.invariant-loop-above
invariant-loop-above l = TrimsAhead (cut 0 l.ends l.tokens) l.rest (reverse l.above.items) l.out
    (flat (unfolded (cut 0 l.ends l.tokens) l.root))

abbrev pub decreases-loop-above : goal.decreases-loop-above
decreases-loop-above l =
    let lists = cut 0 l.ends l.tokens in
    size (tree_in (trees_from [] lists) l.rest) + size_of lists (reverse l.above.items)
