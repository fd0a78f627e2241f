-- The token stands behind those of the list being built, and the list to which it refers is linked to it.
use Rattle.cw_tokens.proofs.Storing.{push-view}
use Rattle.cw_tokens.proofs.store.TokenStore.push.Goals as goal

pub set_link-requires : goal.set_link-requires
set_link-requires c =
    let p = push-view _ _ _ _ _ _ _ _ _ c.args.token _ c.self.invariant c.self.view_is c.requires.building
    c.requires.room c.requires.reference in
    λ x h. rw c.self.inside.links.ok.0 (p.below x h)

pub invariant_of-self : goal.invariant_of-self
invariant_of-self c =
    let p = push-view _ _ _ _ _ _ _ _ _ c.args.token _ c.self.invariant c.self.view_is c.requires.building
    c.requires.room c.requires.reference in
    rw (
      c.push_reserved.ensures.items,
      c.set_link.ensures.items,
      c.push_reserved.ensures.capacity,
      c.set_link.ensures.capacity,
      c.len-list.ensures,
      c.self.inside.ends.ok.0,
      c.len.ensures,
      c.self.inside.tokens.ok.0,
    ) p.stored

pub returns-clause-lists : goal.returns-clause-lists
returns-clause-lists c =
    let p = push-view _ _ _ _ _ _ _ _ _ c.args.token _ c.self.invariant c.self.view_is c.requires.building
    c.requires.room c.requires.reference in
    rw c.push_reserved.ensures.items p.lists
