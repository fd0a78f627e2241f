-- The only name of a list is that of its tree, where the tree is exactly one identifier.
use Rattle.cw_tokens.proofs.Terms.{ap, ◌∙◌, refl, bare_name, unfolded, StoredLists, cut, only_name_of}
use Rattle.cw_tokens.proofs.{Bare.bare-list, Bare.name_at, Linking.linked-lists, Linking.linked-tied, Storing.kept-view}
use Rattle.cw_tokens.proofs.store.TokenStore.bare_name.Goals as goal

pub list_at-requires-clause-list : goal.list_at-requires-clause-list
list_at-requires-clause-list c =
    let k = kept-view _ _ _ _ _ _ c.self.view_is c.requires.list in rw c.deref-2.ensures.value k.in_ends

pub returns : goal.returns
returns c = record {
  name = c.only_name.ensures ∙ (ap only_name_of (c.list_at.ensures ∙ rw (c.deref.ensures.value, c.deref-2.ensures.value)
      refl) ∙ (bare-list (cut 0 c.self.inside.ends.items c.self.inside.tokens.items) c.args.id.index (linked-tied _ _
      (linked-lists _ _ _ c.self.invariant.linked)) (kept-view _ _ _ _ _ _ c.self.view_is c.requires.list).in_cut
      ∙ ap (λ (v : StoredLists). name_at (bare_name (unfolded v.lists c.args.id.index))) c.self.view_is));
}
