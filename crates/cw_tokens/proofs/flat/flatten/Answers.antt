-- Each turn takes an item, goes down into a list or up behind one; at the end all items of the tree are laid.
use Rattle.cw_tokens.proofs.Terms.{◌≤◌, length, ap, arith, ref_of, cut}
use Rattle.cw_tokens.specs.declared.flat.FlatItem.TheVariants.{Open}
use Rattle.cw_tokens.proofs.{Cutting.cut-short, Linking.linked-tied, Measuring.less-down, Measuring.less-up}
use Rattle.cw_tokens.proofs.Places.{at-place, at-end, below-cut, above-cut}
use Rattle.cw_tokens.proofs.Flattening.{flattens-start, flattens-leaf, flattens-below, flattens-inner, items-push}
use Rattle.cw_tokens.proofs.Flattening.{flattens-up, flattens-end, below-ref, inner-ref, up-step, up-flattens}
use Rattle.cw_tokens.proofs.flat.flatten.Goals as goal

pub loop-place-init : goal.loop-place-init
loop-place-init c = record {
  flattens = flattens-start _ _ _ (linked-tied _ _ c.requires.linked) (below-cut _ _ _ c.requires.root);
  here = c.list_at-items.ensures;
}

pub offset_bounds-items-place : goal.offset_bounds-items-place
offset_bounds-items-place c =
    let here : length c.loop-place.items.now ≤ length c.args.tokens.now = omega (
      arith,
      ap length c.loop-place.invariant.here,
      cut-short 0 c.args.ends.now c.args.tokens.now c.loop-place.list,
    ) in
    omega (arith, here)

pub overflow_add-place : goal.overflow_add-place
overflow_add-place c =
    let here : length c.loop-place.items.now ≤ length c.args.tokens.now = omega (
      arith,
      ap length c.loop-place.invariant.here,
      cut-short 0 c.args.ends.now c.args.tokens.now c.loop-place.list,
    ) in
    omega (arith, here)

pub loop-place-preserved-in-Leaf : goal.loop-place-preserved-in-Leaf
loop-place-preserved-in-Leaf c = record {
  flattens = rw (c.in_ok-push-in-Leaf.ensures.items, items-push c.loop-place.out.items c.in-Leaf.item)
      (flattens-leaf _ _ _ _ _ _ (at-place (cut 0 c.args.ends.now c.args.tokens.now) c.loop-place.list _ _ _
      c.loop-place.invariant.here c.if-place-items.true) _ _ c.loop-place.invariant.flattens c.in-Leaf.ensures);
  here = c.loop-place.invariant.here;
}

pub list_at-items-requires-in-Below-clause-list : goal.list_at-items-requires-in-Below-clause-list
list_at-items-requires-in-Below-clause-list c =
    let f = flattens-below _ _ _ _ _ _ (at-place (cut 0 c.args.ends.now c.args.tokens.now) c.loop-place.list _ _ _
    c.loop-place.invariant.here c.if-place-items.true)
    _ _ (linked-tied _ _ c.requires.linked) c.loop-place.invariant.flattens c.in-Below.ensures in
    above-cut _ _ _ f.inside

pub list_at-items-requires-in-InnerBelow-clause-list : goal.list_at-items-requires-in-InnerBelow-clause-list
list_at-items-requires-in-InnerBelow-clause-list c =
    let f = flattens-inner _ _ _ _ _ _ (at-place (cut 0 c.args.ends.now c.args.tokens.now) c.loop-place.list _ _ _
    c.loop-place.invariant.here c.if-place-items.true)
    _ _ (linked-tied _ _ c.requires.linked) c.loop-place.invariant.flattens c.in-InnerBelow.ensures in
    above-cut _ _ _ f.inside

pub list_at-items-requires-else-list-root-clause-list : goal.list_at-items-requires-else-list-root-clause-list
list_at-items-requires-else-list-root-clause-list c =
    let u = up-step _ _ _ _ _ _ _ (flattens-up (cut 0 c.args.ends.now c.args.tokens.now) c.args.links.now c.args.root
    c.loop-place.list c.loop-place.place _ _ c.requires.linked c.loop-place.invariant.flattens
    (at-end (cut 0 c.args.ends.now c.args.tokens.now) c.loop-place.list _ _ c.loop-place.invariant.here
    c.if-place-items.false) c.if-list-root.false) c.link_at-up.ensures in
    above-cut _ _ _ u.inside

pub loop-place-smaller-in-Below : goal.loop-place-smaller-in-Below
loop-place-smaller-in-Below c = less-down _ _ _ c.requires.linked _ _ _ _ (below-cut _ _ _ c.requires.root)
    c.loop-place.invariant.flattens.way (at-place (cut 0 c.args.ends.now c.args.tokens.now) c.loop-place.list _ _ _
    c.loop-place.invariant.here c.if-place-items.true) (ap ref_of (below-ref _ _ c.in-Below.ensures))

pub loop-place-preserved-in-Below : goal.loop-place-preserved-in-Below
loop-place-preserved-in-Below c = record {
  flattens = flattens-below _ _ _ _ _ _ (at-place (cut 0 c.args.ends.now c.args.tokens.now) c.loop-place.list _ _ _
      c.loop-place.invariant.here c.if-place-items.true) _ _ (linked-tied _ _ c.requires.linked)
      c.loop-place.invariant.flattens c.in-Below.ensures;
  here = c.list_at-items-in-Below.ensures;
}

pub loop-place-smaller-in-InnerBelow : goal.loop-place-smaller-in-InnerBelow
loop-place-smaller-in-InnerBelow c = less-down _ _ _ c.requires.linked _ _ _ _ (below-cut _ _ _ c.requires.root)
    c.loop-place.invariant.flattens.way (at-place (cut 0 c.args.ends.now c.args.tokens.now) c.loop-place.list _ _ _
    c.loop-place.invariant.here c.if-place-items.true) (ap ref_of (inner-ref _ _ c.in-InnerBelow.ensures))

pub loop-place-preserved-in-InnerBelow : goal.loop-place-preserved-in-InnerBelow
loop-place-preserved-in-InnerBelow c = record {
  flattens = rw (c.in_ok-push-in-InnerBelow.ensures.items, items-push c.loop-place.out.items Open)
      (flattens-inner _ _ _ _ _ _ (at-place (cut 0 c.args.ends.now c.args.tokens.now) c.loop-place.list _ _ _
      c.loop-place.invariant.here c.if-place-items.true) _ _ (linked-tied _ _ c.requires.linked)
      c.loop-place.invariant.flattens c.in-InnerBelow.ensures);
  here = c.list_at-items-in-InnerBelow.ensures;
}

pub returns-then-list-root : goal.returns-then-list-root
returns-then-list-root c = flattens-end _ _ _ _ _ (linked-tied _ _ c.requires.linked)
    (rw c.if-list-root.true at c.loop-place.invariant.flattens) (rw c.if-list-root.true at (at-end
    (cut 0 c.args.ends.now c.args.tokens.now) c.loop-place.list _ _ c.loop-place.invariant.here c.if-place-items.false))

pub link_at-up-requires : goal.link_at-up-requires
link_at-up-requires c = omega (arith, above-cut _ _ _ c.loop-place.invariant.flattens.inside, c.requires.links)

pub token_before-requires-clause-list : goal.token_before-requires-clause-list
token_before-requires-clause-list c =
    let u = up-step _ _ _ _ _ _ _ (flattens-up (cut 0 c.args.ends.now c.args.tokens.now) c.args.links.now c.args.root
    c.loop-place.list c.loop-place.place _ _ c.requires.linked c.loop-place.invariant.flattens
    (at-end (cut 0 c.args.ends.now c.args.tokens.now) c.loop-place.list _ _ c.loop-place.invariant.here
    c.if-place-items.false) c.if-list-root.false) c.link_at-up.ensures in
    above-cut _ _ _ u.inside

pub token_before-requires-clause-place : goal.token_before-requires-clause-place
token_before-requires-clause-place c =
    let u = up-step _ _ _ _ _ _ _ (flattens-up (cut 0 c.args.ends.now c.args.tokens.now) c.args.links.now c.args.root
    c.loop-place.list c.loop-place.place _ _ c.requires.linked c.loop-place.invariant.flattens
    (at-end (cut 0 c.args.ends.now c.args.tokens.now) c.loop-place.list _ _ c.loop-place.invariant.here
    c.if-place-items.false) c.if-list-root.false) c.link_at-up.ensures in
    u.within

pub loop-place-smaller : goal.loop-place-smaller
loop-place-smaller c = rw c.link_at-up.ensures (less-up _ _ _ c.requires.linked _ _
    (below-cut _ _ _ c.requires.root) c.loop-place.invariant.flattens.way c.if-list-root.false (at-end
    (cut 0 c.args.ends.now c.args.tokens.now) c.loop-place.list _ _ c.loop-place.invariant.here c.if-place-items.false))

pub loop-place-preserved : goal.loop-place-preserved
loop-place-preserved c = record {
  flattens = up-flattens _ _ _ _ _ _ _ _ _ (flattens-up (cut 0 c.args.ends.now c.args.tokens.now) c.args.links.now
      c.args.root c.loop-place.list c.loop-place.place _ _ c.requires.linked c.loop-place.invariant.flattens
      (at-end (cut 0 c.args.ends.now c.args.tokens.now) c.loop-place.list _ _ c.loop-place.invariant.here
      c.if-place-items.false) c.if-list-root.false) c.link_at-up.ensures c.token_before.ensures c.in_ok-close.ensures;
  here = c.list_at-items-else-list-root.ensures;
}
