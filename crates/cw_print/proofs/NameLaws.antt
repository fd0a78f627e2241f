-- A C text that is one identifier.
use Rattle.cw_print.proofs.Terms.{◌≡◌, ℕ, ◌<◌, Bool, Some, List, [], ◌∷◌, ap, ◌∙◌, length, slice_get, arith, append-nil}
use Rattle.cw_print.proofs.Terms.{IdentItem, ident_bytes, printed, FlatItem, items_are, word_at, AllMay, MayCome}
use Rattle.cw_print.proofs.Terms.{IsOnlyName, shown, PrintSource}
use Rattle.cw_names.specs.declared.entry.NameId.{NameId}

-- the items of a list of one
pub only-item : (items : List FlatItem) (item : FlatItem) → length items ≡ 1 → slice_get items 0 ≡ Some item
    → items ≡ item ∷ []
only-item [] item one is = absurd (omega arith)
only-item (first ∷ []) item one is = let same : first ≡ item = cc in ap (λ (i : FlatItem). i ∷ []) same
only-item (first ∷ second ∷ items) item one is = absurd (omega arith)

one-printed : (inner : Bool) (s : PrintSource) (name number : ℕ)
    → printed inner (shown s (IdentItem name number ∷ [])) ≡ word_at ident_bytes s.names name
one-printed inner s name number = grind (arith, append-nil)

-- it prints its name
pub only-printed : (inner : Bool) (s : PrintSource) (name : NameId) (items : List FlatItem) → IsOnlyName name items
    → printed inner (shown s (items_are items)) ≡ word_at ident_bytes s.names name.index
only-printed inner s name items is =
    ap (λ (items : List FlatItem). printed inner (shown s (items_are items))) is.1 ∙ one-printed inner s name.index is.0

-- which is one of so many
pub only-named : (count : ℕ) (name : NameId) (items : List FlatItem) → IsOnlyName name items
    → AllMay (MayCome count) 0 (items_are items) → name.index < count
only-named count name items is may = grind arith
