-- The list that was being built stands behind the others, and its number is how many these are.
use Rattle.cw_tokens.proofs.Terms.{◌∙◌}
use Rattle.cw_tokens.proofs.Storing.{finish-view}
use Rattle.cw_tokens.proofs.store.TokenStore.finish.Goals as goal

pub invariant_of-self : goal.invariant_of-self
invariant_of-self c =
    let f = finish-view _ _ _ _ _ _ _ _ _ _ c.self.invariant c.self.view_is c.requires.building in
    rw (
      c.push_reserved.ensures.items,
      c.push_reserved-2.ensures.items,
      c.push_reserved.ensures.capacity,
      c.push_reserved-2.ensures.capacity,
      c.len.ensures,
      c.self.inside.tokens.ok.0,
    ) f.stored

pub returns-clause-id : goal.returns-clause-id
returns-clause-id c =
    let f = finish-view _ _ _ _ _ _ _ _ _ _ c.self.invariant c.self.view_is c.requires.building in
    c.len-index.ensures ∙ (c.self.inside.ends.ok.0 ∙ f.number)

pub returns-clause-lists : goal.returns-clause-lists
returns-clause-lists c =
    let f = finish-view _ _ _ _ _ _ _ _ _ _ c.self.invariant c.self.view_is c.requires.building in
    rw (c.push_reserved.ensures.items, c.len.ensures, c.self.inside.tokens.ok.0) f.lists
