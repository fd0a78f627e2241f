-- The list of a comment has the comment's tree, and refers to each of its inner texts once and in order.
use Rattle.cw_translator.proofs.Terms.{ap, Then, Sign, Source, Text, refl, rules, sym, subst, AreRoots, ◌∙◌, arith}
use Rattle.cw_translator.proofs.Terms.{builds-start, builds-pushed}
use Rattle.cw_trees.specs.declared.Control.TheVariants as control
use Rattle.cw_translator.proofs.HeldLists.{built, comment_end, comment_piece, comment_tokens, comment-refs}
use Rattle.cw_translator.proofs.HeldLists.{comment-rest, part-may, part-more, parts-end}
use Rattle.cw_translator.proofs.comments.comment_list.Goals as goal

pub loop-part-init : goal.loop-part-init
loop-part-init c = (
  builds-pushed _ _ _ _ c.push.new.self c.push-2.new.self (builds-pushed _ _ _ _ c.begin.new.self c.push.new.self
      (builds-start c.args.store.now.lists (comment_tokens c.args.number c.args.parts.now) c.begin.new.self
      c.begin.ensures.building (c.begin.ensures.lists ∙ c.in_ok-reserve.ensures.lists)) c.push.ensures.building
      c.push.ensures.lists) c.push-2.ensures.building c.push-2.ensures.lists,
  omega (arith, c.in_ok-reserve.ensures.room, c.begin.ensures.spare, c.push.ensures.spare, c.push-2.ensures.spare),
)

pub push-requires-in-loop-part-clause-reference : goal.push-requires-in-loop-part-clause-reference
push-requires-in-loop-part-clause-reference c = rw c.token_of.ensures (part-may c.args.store.now.lists _ comment_piece
    comment_end c.args.parts.now c.loop-part.part-index c.loop-part.store c.loop-part.invariant.0 _
    c.loop-part-test.true (subst (AreRoots c.args.store.now.lists) (sym (comment-refs c.args.parts.now))
    c.requires.roots) (λ q ts. refl))

pub loop-part-preserved : goal.loop-part-preserved
loop-part-preserved c = (
  part-more c.args.store.now.lists _ comment_piece comment_end c.args.parts.now c.loop-part.part-index c.loop-part.store
      c.loop-part.invariant.0 _ c.loop-part-test.true c.push-in-loop-part.new.self
      (rw c.token_of.ensures at c.push-in-loop-part.ensures.building) c.push-in-loop-part.ensures.lists,
  omega (arith, c.loop-part.invariant.1, c.push-in-loop-part.ensures.spare),
)

pub returns : goal.returns
returns c =
    let b = builds-pushed _ _ _ _ c.push-3.new.self c.push-4.new.self
    (builds-pushed _ _ _ _ c.loop-part.store c.push-3.new.self (parts-end c.args.store.now.lists
    (comment_tokens c.args.number c.args.parts.now) comment_piece comment_end c.args.parts.now c.loop-part.part-index
    c.loop-part.store c.loop-part.invariant.0 (omega (arith, c.loop-part-test.false))) c.push-3.ensures.building
    c.push-3.ensures.lists) c.push-4.ensures.building c.push-4.ensures.lists in
    let list = built c.args.store.now.lists (comment_tokens c.args.number c.args.parts.now) c.push-4.new.self
    c.finish.new.self.lists c.finish.result.index c.args.parts.now _ (ap (λ t. Then (Sign control.Cancel)
    (Then (Source c.args.number Text) t)) (comment-rest c.args.store.now.lists c.args.parts.now))
    (comment-refs c.args.parts.now) b c.finish.ensures.lists c.finish.ensures.id in
    record { tree = list.0; gathers = list.1; idle = search rules; refused = search rules }
