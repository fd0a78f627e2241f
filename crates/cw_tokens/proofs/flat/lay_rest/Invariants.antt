-- With what is to come all items are the same as at first, and there is no more to walk.
use Rattle.cw_tokens.proofs.Terms.{[], ◌+◌, reverse, Lays, size_of, tree_in, trees_from, cut, size}
use Rattle.cw_tokens.proofs.flat.lay_rest.Given as goal

abbrev pub invariant-loop-rest : goal.invariant-loop-rest
invariant-loop-rest l = Lays (cut 0 l.ends l.tokens) l.first (reverse l.initial.above.items) l.initial.out
    l.rest (reverse l.above.items) l.out

abbrev pub decreases-loop-rest : goal.decreases-loop-rest
decreases-loop-rest l =
    let lists = cut 0 l.ends l.tokens in
    size (tree_in (trees_from [] lists) l.rest) + size_of lists (reverse l.above.items)
