-- Trimming takes no token's bytes away.
use Rattle.cw_plain_laws.proofs.Terms.{◌≡◌, ℕ, Bool, true, ◌&&◌, List, [], ◌∷◌, refl, if◌then◌else◌, arith, both-left}
use Rattle.cw_plain_laws.proofs.Terms.{both-right, Control, Item, SignItem, begins_after, is_break, is_inserted}
use Rattle.cw_plain_laws.proofs.Terms.{trim_back, trim_front, trimmed_items, without_inserted, Piece, PlainSource}
use Rattle.cw_plain_laws.proofs.Terms.{Stand, pieces_from, pieces_in}
use Rattle.cw_plain_laws.proofs.Walks.{owners}
use Rattle.cw_trees.specs.declared.Control.TheVariants as control

cons-same : (p : Piece) (xs ys : List Piece) → owners xs ≡ owners ys → owners (p ∷ xs) ≡ owners (p ∷ ys)
cons-same p xs ys e = grind arith

next-owners : (s : PlainSource) (depth : ℕ) (item : Item) (stand : Stand) (f g : Stand → List Piece) → ((st : Stand)
    → owners
    (f st) ≡ owners (g st)) → owners (pieces_in s depth item stand f) ≡ owners (pieces_in s depth item stand g)
next-owners s depth item stand f g same = grind (arith, cons-same)

-- the signs that are taken away
abbrev IsQuiet : Control → Type 0
IsQuiet control.Blank = Unit {0}
IsQuiet control.OptionalBreak = Unit {0}
IsQuiet control.Break = Unit {0}
IsQuiet control.BigBreak = Unit {0}
IsQuiet control.Inserted = Unit {0}
IsQuiet _ = ⊥

abbrev OwnsSame : PlainSource → List Item → List Item → Type 0
OwnsSame s xs ys = (stand : Stand) → owners (pieces_from s xs stand) ≡ owners (pieces_from s ys stand)

quiet-at : (s : PlainSource) (c : Control) → IsQuiet c → (items : List Item) (n : ℕ) (comments : List Bool)
    → (let st : Stand = record { name = n; comments = comments } in owners (pieces_from s (SignItem c ∷ items) st))
    ≡ (let st : Stand = record { name = n; comments = comments } in owners (pieces_from s items st))
quiet-at s c q items n comments = grind arith

quiet : (s : PlainSource) (c : Control) (items : List Item) → IsQuiet c → OwnsSame s (SignItem c ∷ items) items
quiet s c items q stand = quiet-at s c q items stand.name stand.comments

break-quiet : (s : PlainSource) (item : Item) (items : List Item) → is_break item ≡ true → OwnsSame s (item
    ∷ items) items
break-quiet s item items e = grind (arith, quiet)

inserted-quiet : (s : PlainSource) (item : Item) (items : List Item) → is_inserted item ≡ true
    → OwnsSame s (item ∷ items) items
inserted-quiet s item items e = grind (arith, quiet)

-- an item is kept or taken away, and what follows has the same bytes
either : (s : PlainSource) (taken : Bool) (item : Item) (thin items : List Item) → (taken ≡ true → OwnsSame s (item
    ∷ items)
    items) → OwnsSame s thin items → OwnsSame s (if taken then thin else item ∷ thin) (item ∷ items)
either s taken item thin items gone same stand = grind (arith, next-owners)

without-owns : (s : PlainSource) (items : List Item) → OwnsSame s (without_inserted items) items
without-owns s [] stand = refl
without-owns s (item ∷ items) stand = grind (arith, without-owns s items, either, inserted-quiet)

front-by : (s : PlainSource) (begins : Bool) (item : Item) (items : List Item) (t : Bool) → (begins && is_break item)
    ≡ t
    → OwnsSame s (trim_front begins items) items → OwnsSame s (trim_front (begins_after begins item) items) items
    → OwnsSame s (if t then trim_front begins items else item ∷ trim_front (begins_after begins item) items)
    (item ∷ items)
front-by s begins item items t e gone kept stand = grind (arith, break-quiet, both-right, next-owners)

front-owns : (s : PlainSource) (begins : Bool) (items : List Item) → OwnsSame s (trim_front begins items) items
front-owns s begins [] stand = refl
front-owns s begins (item ∷ items) stand =
    grind (arith, front-owns s begins items, front-owns s (begins_after begins item) items, front-by)

back-owns : (s : PlainSource) (items : List Item) → OwnsSame s (trim_back items) items
back-owns s [] stand = refl
back-owns s (item ∷ items) stand = grind (arith, back-owns s items, either, break-quiet, both-left)

pub trims-no-bytes : (s : PlainSource) (items : List Item) (stand : Stand)
    → owners (pieces_from s (trimmed_items items) stand) ≡ owners (pieces_from s items stand)
trims-no-bytes s items stand = grind (arith, back-owns, front-owns, without-owns)
