-- The root is a list of the store and all lists are linked, and so tied, so its tree can be trimmed as it is laid flat.
use Rattle.cw_tokens.proofs.{Linking.linked-lists, Linking.linked-tied, Storing.kept-view}
use Rattle.cw_tokens.proofs.store.TokenStore.flat_trimmed.Goals as goal

pub flatten_trimmed-requires-clause-root : goal.flatten_trimmed-requires-clause-root
flatten_trimmed-requires-clause-root c =
    let k = kept-view _ _ _ _ _ _ c.self.view_is c.requires.list in rw c.deref-2.ensures.value k.in_ends

pub flatten_trimmed-requires-clause-tied : goal.flatten_trimmed-requires-clause-tied
flatten_trimmed-requires-clause-tied c = rw (c.deref.ensures.value, c.deref-2.ensures.value)
    (linked-tied _ _ (linked-lists _ _ _ c.self.invariant.linked))
