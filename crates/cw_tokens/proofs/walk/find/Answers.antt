-- At each token the search finds the first identifier, ends without one, passes on, goes down a list or back up.
use Rattle.cw_tokens.proofs.Terms.{Some, ap, ◌∙◌, arith, ref_of, cut}
use Rattle.cw_tokens.proofs.{Linking.linked-tied, Measuring.reach-of, Measuring.less-down, Measuring.less-up}
use Rattle.cw_tokens.proofs.Places.{at-place, at-end, below-cut, above-cut}
use Rattle.cw_tokens.proofs.Searching.{walks-start, walks-found, walks-stopped, walks-ended, walks-pass, walks-down}
use Rattle.cw_tokens.proofs.Searching.{walks-up}
use Rattle.cw_tokens.proofs.walk.find.Goals as goal

pub loop-place-init : goal.loop-place-init
loop-place-init c = walks-start _ _ (linked-tied _ _ c.requires.linked) (below-cut _ _ _ c.requires.root)

pub list_at-items-requires-clause-list : goal.list_at-items-requires-clause-list
list_at-items-requires-clause-list c = above-cut _ _ _ c.loop-place.invariant.inside

pub returns-in-Name : goal.returns-in-Name
returns-in-Name c = walks-found _ _ (linked-tied _ _ c.requires.linked) _
    (below-cut _ _ _ c.requires.root) c.loop-place.invariant (at-place (cut 0 c.args.ends.now c.args.tokens.now)
    c.loop-place.list _ _ _ c.list_at-items.ensures c.if-place-items.true ∙ ap Some c.in-Name.ensures)

pub returns-in-Stop : goal.returns-in-Stop
returns-in-Stop c = walks-stopped _ _ (linked-tied _ _ c.requires.linked) _ _ _
    (below-cut _ _ _ c.requires.root) c.loop-place.invariant (at-place (cut 0 c.args.ends.now c.args.tokens.now)
    c.loop-place.list _ _ _ c.list_at-items.ensures c.if-place-items.true) c.in-Stop.ensures

pub loop-place-preserved-in-Pass : goal.loop-place-preserved-in-Pass
loop-place-preserved-in-Pass c = walks-pass _ _ (linked-tied _ _ c.requires.linked) _ _ _ c.loop-place.invariant
    (at-place (cut 0 c.args.ends.now c.args.tokens.now) c.loop-place.list _ _ _ c.list_at-items.ensures
    c.if-place-items.true) c.in-Pass.ensures

pub loop-place-smaller-in-Down : goal.loop-place-smaller-in-Down
loop-place-smaller-in-Down c = less-down _ _ _ c.requires.linked _ _ _ _ (below-cut _ _ _ c.requires.root)
    (reach-of _ _ _ c.loop-place.invariant.path) (at-place (cut 0 c.args.ends.now c.args.tokens.now) c.loop-place.list _
    _ _ c.list_at-items.ensures c.if-place-items.true) (ap ref_of c.in-Down.ensures)

pub loop-place-preserved-in-Down : goal.loop-place-preserved-in-Down
loop-place-preserved-in-Down c = walks-down _ _ (linked-tied _ _ c.requires.linked) _ _ _ _ c.loop-place.invariant
    (at-place (cut 0 c.args.ends.now c.args.tokens.now) c.loop-place.list _ _ _ c.list_at-items.ensures
    c.if-place-items.true) c.in-Down.ensures

pub returns-then-list-root : goal.returns-then-list-root
returns-then-list-root c = walks-ended _ _ (linked-tied _ _ c.requires.linked) _
    (rw c.if-list-root.true at c.loop-place.invariant) (rw c.if-list-root.true at (at-end
    (cut 0 c.args.ends.now c.args.tokens.now) c.loop-place.list _ _ c.list_at-items.ensures c.if-place-items.false))

pub link_at-up-requires : goal.link_at-up-requires
link_at-up-requires c = omega (arith, above-cut _ _ _ c.loop-place.invariant.inside, c.requires.links)

pub loop-place-smaller : goal.loop-place-smaller
loop-place-smaller c = rw c.link_at-up.ensures (less-up _ _ _ c.requires.linked _ _ (below-cut _ _ _ c.requires.root)
    (reach-of _ _ _ c.loop-place.invariant.path) c.if-list-root.false (at-end
    (cut 0 c.args.ends.now c.args.tokens.now) c.loop-place.list _ _ c.list_at-items.ensures c.if-place-items.false))

pub loop-place-preserved : goal.loop-place-preserved
loop-place-preserved c = rw c.link_at-up.ensures
    (walks-up _ _ _ _ _ c.requires.linked c.loop-place.invariant (at-end (cut 0 c.args.ends.now c.args.tokens.now)
    c.loop-place.list _ _ c.list_at-items.ensures c.if-place-items.false) c.if-list-root.false)
