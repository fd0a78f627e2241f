-- The new scrap stands behind the gap, in the place of the last that it replaces; the gap has taken in the others.
use Rattle.cw_scraps.proofs.Terms.{◌≡◌, ◌+◌, ◌-◌, ◌≤◌, length, set, refl, ap, ◌∙◌, arith, with_items_is, around, IsGap}
use Rattle.cw_scraps.proofs.Gaps.{over-within, replaced-behind}
use Rattle.cw_scraps.proofs.line.ScrapLine.replace.Goals as goal

pub returns : goal.returns
returns c =
    let view : around c.self.inside.left c.self.inside.right c.deref_mut.result.now ≡ c.args.self.now = ap
    (around c.self.inside.left c.self.inside.right) c.deref_mut.ensures.value ∙ c.self.view_is in
    let same : length c.gap_to.new.items ≡ length c.self.inside.items.items =
    omega (arith, c.gap_to.auto.items, ap length c.deref_mut.ensures.value) in
    let within : c.gap_to.result + c.args.count ≤ length c.gap_to.new.items = over-within c.self.inside.items.items
    c.gap_to.new.items c.self.inside.left c.self.inside.right (c.args.at + c.args.count)
    (c.gap_to.result + c.args.count) c.args.self.now c.self.invariant c.self.view_is c.requires.within
    (omega (arith, c.gap_to.ensures.size)) same in
    let order : c.self.inside.left ≤ c.self.inside.right = c.self.invariant.order in
    let gap : IsGap c.args.at c.gap_to.result c.gap_to.new.items = record
    { order = omega (arith, c.gap_to.ensures.size); within = omega arith } in
    ap (λ items. around c.args.at (c.gap_to.result + (c.args.count - 1)) (set items (c.gap_to.result
    + (c.args.count - 1)) c.args.entry)) (with_items_is c.self.inside.items c.gap_to.new.items (omega (
      arith,
      c.gap_to.auto.items,
      c.deref_mut.ensures.len,
    ))) ∙ replaced-behind c.gap_to.new.items c.args.at c.gap_to.result
    c.args.count _ c.args.entry c.args.self.now gap (c.gap_to.ensures.around ∙ view) c.requires.some within refl
