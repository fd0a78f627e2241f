-- The name of the next heading goes behind those before it.
use Rattle.cw_index.proofs.Terms.{◌<◌, ◌∙◌, ◌∷◌, All, List, ap, length, subst, sym, All-head, All-push, All-tail}
use Rattle.cw_index.proofs.Terms.{NameId, Heading, IsNamed}
use Rattle.cw_index.proofs.OrderNames.{named-within, names_with, order-next}
use Rattle.cw_index.proofs.headings.index_order.Goals as goal

pub loop-heading-preserved : goal.loop-heading-preserved
loop-heading-preserved c =
    let is : Heading → Type 0 = IsNamed c.args.names.now in
    let within : NameId → Type 0 = λ id. id.index < length c.args.names.now in
    let named : All is (c.in-Some.heading ∷ c.next.new.self) = subst
    (All is) c.in-Some.ensures.steps c.loop-heading.invariant.named in
    record {
      names = ap (λ (ids : List NameId). names_with ids c.next.new.self) c.in_ok-push.ensures.items
          ∙ order-next c.loop-heading.order.items c.in-Some.heading c.next.new.self
          ∙ ap (names_with c.loop-heading.order.items) (sym c.in-Some.ensures.steps) ∙ c.loop-heading.invariant.names;
      within = subst (All within) (sym c.in_ok-push.ensures.items)
          (All-push within c.loop-heading.order.items c.in-Some.heading.id c.loop-heading.invariant.within
          (named-within c.args.names.now c.in-Some.heading (All-head is c.in-Some.heading c.next.new.self named)));
      named = All-tail is c.in-Some.heading c.next.new.self named;
    }
