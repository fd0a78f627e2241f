-- The tokens of a list are those between its two ends in the one vector of the store.
use Rattle.cw_tokens.proofs.Terms.{ap, ◌∙◌, refl, get_or, [], StoredLists}
use Rattle.cw_tokens.proofs.Storing.{kept-view}
use Rattle.cw_tokens.proofs.store.TokenStore.tokens.Goals as goal

pub list_at-requires-clause-list : goal.list_at-requires-clause-list
list_at-requires-clause-list c =
    let k = kept-view _ _ _ _ _ _ c.self.view_is c.requires.list in rw c.deref-2.ensures.value k.in_ends

pub returns : goal.returns
returns c = record {
  tokens = c.list_at.ensures ∙ (rw (c.deref.ensures.value, c.deref-2.ensures.value) refl
      ∙ ap (λ (v : StoredLists). get_or v.lists c.args.id.index []) c.self.view_is);
}
