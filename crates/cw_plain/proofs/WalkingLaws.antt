-- Plain text that is made item by item is that of the definition.
use Rattle.cw_plain.proofs.Terms.{◌≡◌, ℕ, zero, suc, List, [], ◌∷◌, ◌++◌, refl, ap, ◌∙◌, Item, trimmed_items}
use Rattle.cw_plain.proofs.Terms.{piece_text, pieces_text, PlainSource, item_placed, passed, pieces, pieces_from}
use Rattle.cw_plain.proofs.Terms.{pieces_in, plain, Walk, behind_at, items_text, text_at, walk_begun, with_placed}
use Rattle.cw_plain.proofs.LayingLaws.{pieces-laid}

abbrev AsPieces : PlainSource → List Item → Type 0
AsPieces s items = (w : Walk) → items_text s w items ≡ pieces_text w.laying (pieces_from s items w.stand)

-- an item of this depth in a section name, before items of which it is known
item-pieces : (depth : ℕ) (s : PlainSource) (w : Walk) (item : Item) (items : List Item) → AsPieces s items
    → text_at depth s w item ++ items_text s (behind_at depth s w item) items
    ≡ pieces_text w.laying (pieces_in s depth item w.stand (pieces_from s items))
item-pieces zero s w item items are =
    let p = item_placed s item w.stand in ap (λ t. piece_text w.laying p.piece ++ t) (are (with_placed w.laying p))
item-pieces (suc depth) s w item items are = are (record { stand = passed item w.stand; laying = w.laying })

items-pieces : (s : PlainSource) (items : List Item) → AsPieces s items
items-pieces s [] w = refl
items-pieces s (item ∷ items) w = item-pieces w.stand.name s w item items (items-pieces s items)

-- all items of a flat list that is trimmed
pub items-plain : (s : PlainSource) (items : List Item) → items_text s walk_begun (trimmed_items items) ≡ plain s items
items-plain s items = items-pieces s (trimmed_items items) walk_begun ∙ pieces-laid (pieces s (trimmed_items items))

-- the same, of a walk that begins, over a list that has these items
pub all-plain : (s : PlainSource) (w : Walk) (given items : List Item) (out before : List ℕ) → w ≡ walk_begun
    → given ≡ trimmed_items items → before ≡ [] → out ≡ before ++ items_text s w given → out ≡ plain s items
all-plain s w given items out before begins same none is =
    is ∙ (λ i. none i ++ items_text s (begins i) (same i)) ∙ items-plain s items
