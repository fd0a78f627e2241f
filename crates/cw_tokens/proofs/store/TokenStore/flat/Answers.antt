-- The root is a list of the store and all lists are linked, so its tree can be laid flat.
use Rattle.cw_tokens.proofs.{Linking.linked-lists, Storing.kept-view}
use Rattle.cw_tokens.proofs.store.TokenStore.flat.Goals as goal

pub flatten-requires-clause-root : goal.flatten-requires-clause-root
flatten-requires-clause-root c =
    let k = kept-view _ _ _ _ _ _ c.self.view_is c.requires.list in rw c.deref-2.ensures.value k.in_ends

pub flatten-requires-clause-linked : goal.flatten-requires-clause-linked
flatten-requires-clause-linked c = rw (c.deref.ensures.value, c.deref-2.ensures.value, c.deref-3.ensures.value)
    (linked-lists _ _ _ c.self.invariant.linked)
