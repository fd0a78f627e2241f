-- Trimming from the front, and then from the back with the items reversed, gives the trimmed list.
use Rattle.cw_tokens.proofs.Terms.{◌≡◌, true, List, length, take, ap, reverse, ◌∙◌, arith, trim_front, without_inserted}
use Rattle.cw_tokens.proofs.Terms.{FlatItem, items_are}
use Rattle.cw_tokens.proofs.Trimming.{whole, items-reversed, trims}
use Rattle.cw_tokens.proofs.trim.trim_items.Goals as goal

pub returns : goal.returns
returns c =
    let front : List FlatItem = take c.keep_from_front-begun.result c.keep_from_front-begun.new.items in
    let back : List FlatItem = take c.keep_from_back-kept.result c.keep_from_back-kept.new.items in
    let cut : c.truncate.new.self.items ≡ front = c.truncate.ensures.items ∙ ap (take c.keep_from_front-begun.result)
    (whole c.args.items.now.len c.keep_from_front-begun.new.items c.args.items.now.items (omega (
      arith,
      c.keep_from_front-begun.auto.items,
      ap length c.deref_mut.ensures.value,
      c.deref_mut.ensures.len,
    )) (omega (
      arith,
      c.keep_from_front-begun.auto.items,
      ap length c.deref_mut.ensures.value,
      c.deref_mut.ensures.len,
    ))) in
    let cut_again : c.truncate-2.new.self.items ≡ back = c.truncate-2.ensures.items ∙ ap (take
    c.keep_from_back-kept.result) (whole c.reverse.new.self.len c.keep_from_back-kept.new.items c.reverse.new.self.items
    (omega (arith, c.keep_from_back-kept.auto.items, ap length c.deref_mut-2.ensures.value, c.deref_mut-2.ensures.len))
    (omega (arith, c.keep_from_back-kept.auto.items, ap length c.deref_mut-2.ensures.value, c.deref_mut-2.ensures.len)))
    in
    let turned : c.deref_mut-2.result.now ≡ reverse front = c.deref_mut-2.ensures.value ∙ c.reverse.ensures.items
    ∙ ap reverse cut in
    ap items_are (c.reverse-2.ensures.items ∙ ap reverse cut_again) ∙ items-reversed back
    ∙ trims (items_are c.args.items.now.items) (items_are front) (items_are c.deref_mut-2.result.now) (items_are back)
    (c.keep_from_front-begun.ensures.kept ∙ ap (λ (l : List FlatItem). trim_front true (without_inserted (items_are l)))
    c.deref_mut.ensures.value) (ap items_are turned ∙ items-reversed front) c.keep_from_back-kept.ensures.kept
