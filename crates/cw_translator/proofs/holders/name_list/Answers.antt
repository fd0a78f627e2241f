-- The list of a section name has the name's tree, and refers to each of its inner texts once and in order.
use Rattle.cw_translator.proofs.Terms.{ap, Then, Source, Maybe, rules, sym, subst, AreRoots, ◌∙◌, arith}
use Rattle.cw_translator.proofs.Terms.{builds-start, name_part, [], append-nil, builds-more, builds-pushed, sign_tokens}
use Rattle.cw_translator.proofs.HeldLists.{built, name_end, name_tokens, name-ref, name-refs, name-rest, part-may}
use Rattle.cw_translator.proofs.HeldLists.{parts-end}
use Rattle.cw_translator.proofs.holders.name_list.Goals as goal

pub loop-part-init : goal.loop-part-init
loop-part-init c = (
  builds-pushed _ _ _ _ c.begin.new.self c.push.new.self (builds-start c.args.store.now.lists
      (name_tokens c.args.number c.args.sign c.args.parts.now) c.begin.new.self c.begin.ensures.building
      (c.begin.ensures.lists ∙ c.in_ok-reserve.ensures.lists)) c.push.ensures.building c.push.ensures.lists,
  omega (arith, c.in_ok-reserve.ensures.room, c.begin.ensures.spare, c.push.ensures.spare),
)

pub push_part-requires-clause-reference : goal.push_part-requires-clause-reference
push_part-requires-clause-reference c = part-may c.args.store.now.lists _ name_part (name_end c.args.sign)
    c.args.parts.now c.loop-part.part-index c.loop-part.store c.loop-part.invariant.0 _ c.loop-part-test.true
    (subst (AreRoots c.args.store.now.lists) (sym (name-refs c.args.sign c.args.parts.now)) c.requires.roots) name-ref

pub returns : goal.returns
returns c =
    let all = name_tokens c.args.number c.args.sign c.args.parts.now in
    let b = builds-more c.args.store.now.lists all (sign_tokens c.args.sign) [] c.push-2.new.self c.push_sign.new.store
    (rw append-nil (builds-pushed _ _ _ _ c.loop-part.store c.push-2.new.self (parts-end c.args.store.now.lists all
    name_part (name_end c.args.sign) c.args.parts.now c.loop-part.part-index c.loop-part.store c.loop-part.invariant.0
    (omega (arith, c.loop-part-test.false))) c.push-2.ensures.building c.push-2.ensures.lists))
    c.push_sign.ensures.building c.push_sign.ensures.lists in
    let list = built c.args.store.now.lists all c.push_sign.new.store c.finish.new.self.lists c.finish.result.index
    c.args.parts.now _ (ap (Then (Source c.args.number Maybe)) (name-rest c.args.store.now.lists c.args.sign
    c.args.parts.now)) (name-refs c.args.sign c.args.parts.now) b c.finish.ensures.lists c.finish.ensures.id in
    record { tree = list.0; gathers = list.1; idle = search rules; refused = search rules }
