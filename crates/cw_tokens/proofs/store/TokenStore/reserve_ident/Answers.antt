-- The token of the first identifier is written over, which reserves it in the tree; without one nothing changes.
use Rattle.cw_tokens.proofs.Terms.{◌≡◌, ◌+◌, length, None, subst, ap, ◌∙◌, arith, StoredLists, cut, start_of, Finds}
use Rattle.cw_tokens.proofs.Terms.{found_name, first_ident, unfolded, Reserves}
use Rattle.cw_tokens.proofs.{Linking.linked-lists, Storing.kept-view, Places.above-cut, Reserve.none-reserves}
use Rattle.cw_tokens.proofs.{Rewriting.rewrites-view}
use Rattle.cw_tokens.proofs.store.TokenStore.reserve_ident.Goals as goal

pub find-requires-clause-root : goal.find-requires-clause-root
find-requires-clause-root c =
    let k = kept-view _ _ _ _ _ _ c.self.view_is c.requires.list in rw c.deref-2.ensures.value k.in_ends

pub start-requires : goal.start-requires
start-requires c =
    let f : Finds (cut 0 c.self.inside.ends.items c.self.inside.tokens.items) c.args.id.index c.in-Some.spot =
    rw (c.deref-2.ensures.value, c.deref.ensures.value) at c.in-Some.ensures in
    rw c.deref-in-Some.ensures.value (above-cut _ _ _ f.walks.inside)

pub overflow_add-place : goal.overflow_add-place
overflow_add-place c =
    let f : Finds (cut 0 c.self.inside.ends.items c.self.inside.tokens.items) c.args.id.index c.in-Some.spot =
    rw (c.deref-2.ensures.value, c.deref.ensures.value) at c.in-Some.ensures in
    let k = kept-view _ _ _ _ _ _ c.self.view_is c.requires.list in
    let r = rewrites-view _ _ _ _ _ _ _ _ _ _ _ (c.start.result + c.in-Some.spot.place) _ c.self.invariant
    c.self.view_is k.in_cut f (ap (λ n. n + c.in-Some.spot.place) (c.start.ensures
    ∙ ap (λ es. start_of 0 es c.in-Some.spot.list) c.deref-in-Some.ensures.value)) in
    omega (arith, r.inside, c.deref.type_inv.0, ap length c.deref.ensures.value)

pub index_mut-requires : goal.index_mut-requires
index_mut-requires c =
    let f : Finds (cut 0 c.self.inside.ends.items c.self.inside.tokens.items) c.args.id.index c.in-Some.spot =
    rw (c.deref-2.ensures.value, c.deref.ensures.value) at c.in-Some.ensures in
    let k = kept-view _ _ _ _ _ _ c.self.view_is c.requires.list in
    let r = rewrites-view _ _ _ _ _ _ _ _ _ _ _ (c.start.result + c.in-Some.spot.place) _ c.self.invariant
    c.self.view_is k.in_cut f (ap (λ n. n + c.in-Some.spot.place) (c.start.ensures
    ∙ ap (λ es. start_of 0 es c.in-Some.spot.list) c.deref-in-Some.ensures.value)) in
    rw c.self.inside.tokens.ok.0 r.inside

pub invariant_of-self : goal.invariant_of-self
invariant_of-self c =
    let f : Finds (cut 0 c.self.inside.ends.items c.self.inside.tokens.items) c.args.id.index c.in-Some.spot =
    rw (c.deref-2.ensures.value, c.deref.ensures.value) at c.in-Some.ensures in
    let k = kept-view _ _ _ _ _ _ c.self.view_is c.requires.list in
    let r = rewrites-view _ _ _ _ _ _ _ _ _ _ _ (c.start.result + c.in-Some.spot.place) _ c.self.invariant
    c.self.view_is k.in_cut f (ap (λ n. n + c.in-Some.spot.place) (c.start.ensures
    ∙ ap (λ es. start_of 0 es c.in-Some.spot.list) c.deref-in-Some.ensures.value)) in
    r.stored

pub returns-in-Some-clause-token : goal.returns-in-Some-clause-token
returns-in-Some-clause-token c =
    let f : Finds (cut 0 c.self.inside.ends.items c.self.inside.tokens.items) c.args.id.index c.in-Some.spot =
    rw (c.deref-2.ensures.value, c.deref.ensures.value) at c.in-Some.ensures in
    let k = kept-view _ _ _ _ _ _ c.self.view_is c.requires.list in
    let r = rewrites-view _ _ _ _ _ _ _ _ _ _ _ (c.start.result + c.in-Some.spot.place) _ c.self.invariant
    c.self.view_is k.in_cut f (ap (λ n. n + c.in-Some.spot.place) (c.start.ensures
    ∙ ap (λ es. start_of 0 es c.in-Some.spot.list) c.deref-in-Some.ensures.value)) in
    r.token

pub returns-in-Some-clause-reserves : goal.returns-in-Some-clause-reserves
returns-in-Some-clause-reserves c =
    let f : Finds (cut 0 c.self.inside.ends.items c.self.inside.tokens.items) c.args.id.index c.in-Some.spot =
    rw (c.deref-2.ensures.value, c.deref.ensures.value) at c.in-Some.ensures in
    let k = kept-view _ _ _ _ _ _ c.self.view_is c.requires.list in
    let r = rewrites-view _ _ _ _ _ _ _ _ _ _ _ (c.start.result + c.in-Some.spot.place) _ c.self.invariant
    c.self.view_is k.in_cut f (ap (λ n. n + c.in-Some.spot.place) (c.start.ensures
    ∙ ap (λ es. start_of 0 es c.in-Some.spot.list) c.deref-in-Some.ensures.value)) in
    r.reserves

pub returns-in-Some-clause-building : goal.returns-in-Some-clause-building
returns-in-Some-clause-building c =
    let f : Finds (cut 0 c.self.inside.ends.items c.self.inside.tokens.items) c.args.id.index c.in-Some.spot =
    rw (c.deref-2.ensures.value, c.deref.ensures.value) at c.in-Some.ensures in
    let k = kept-view _ _ _ _ _ _ c.self.view_is c.requires.list in
    let r = rewrites-view _ _ _ _ _ _ _ _ _ _ _ (c.start.result + c.in-Some.spot.place) _ c.self.invariant
    c.self.view_is k.in_cut f (ap (λ n. n + c.in-Some.spot.place) (c.start.ensures
    ∙ ap (λ es. start_of 0 es c.in-Some.spot.list) c.deref-in-Some.ensures.value)) in
    r.building

pub returns-in-None-clause-reserves : goal.returns-in-None-clause-reserves
returns-in-None-clause-reserves c =
    let n : found_name (first_ident (unfolded (cut 0 c.self.inside.ends.items c.self.inside.tokens.items)
    c.args.id.index)) ≡ None = rw (c.deref-2.ensures.value, c.deref.ensures.value) at c.in-None.ensures in
    subst (λ (v : StoredLists). Reserves v.lists v.lists c.args.id.index) c.self.view_is (none-reserves _ _ n)

pub find-requires-clause-linked : goal.find-requires-clause-linked
find-requires-clause-linked c = rw (c.deref.ensures.value, c.deref-2.ensures.value, c.deref-3.ensures.value)
    (linked-lists _ _ _ c.self.invariant.linked)
