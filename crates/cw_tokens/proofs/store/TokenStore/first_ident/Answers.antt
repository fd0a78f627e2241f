-- The search begins at a list of the store, and each list is linked to the token that refers to it.
use Rattle.cw_tokens.proofs.{Linking.linked-lists, Storing.kept-view}
use Rattle.cw_tokens.proofs.store.TokenStore.first_ident.Goals as goal

pub find-requires-clause-root : goal.find-requires-clause-root
find-requires-clause-root c = rw c.deref-2.ensures.value (kept-view _ _ _ _ _ _ c.self.view_is c.requires.list).in_ends

pub find-requires-clause-linked : goal.find-requires-clause-linked
find-requires-clause-linked c = rw (c.deref.ensures.value, c.deref-2.ensures.value, c.deref-3.ensures.value)
    (linked-lists _ _ _ c.self.invariant.linked)
