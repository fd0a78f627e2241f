-- The items of a flat tree may come one behind another, and so may those of its trimmed list.
use Rattle.cw_print.proofs.Terms.{◌≡◌, ℕ, suc, ◌<◌, ◌≤◌, Bool, true, ◌&&◌, List, [], ◌∷◌, ◌++◌, refl, sym, subst, arith}
use Rattle.cw_print.proofs.Terms.{if◌then◌else◌, append-nil, append_assoc, Control, Item, Close, leaf_item, flat}
use Rattle.cw_print.proofs.Terms.{begins_after, ends_text, is_break, is_inserted, sign_is, trim_back, trim_front}
use Rattle.cw_print.proofs.Terms.{trimmed_items, without_inserted, opened, FlatItem, item_is, CanCome, AllMay, MayCome}
use Rattle.cw_print.proofs.Terms.{MayStand}
use Rattle.cw_base.proofs.TestLaws.{both-left, both-right}
use Rattle.cw_trees.specs.Tree.{Leaf, Tree, Empty, Then, Sub, Inner}
use Rattle.cw_scraps.specs.Lines.{IsNamedBelow, leaf_named_below}

-- ## Flat trees

leaf-may : (count depth : ℕ) (leaf : Leaf) → leaf_named_below count leaf → MayStand count depth (leaf_item leaf)
leaf-may count depth leaf named = grind arith

leaf-depth : (depth : ℕ) (leaf : Leaf) → opened depth (leaf_item leaf) ≡ depth
leaf-depth depth leaf = grind arith

flat-may : (count : ℕ) (tree : Tree) → IsNamedBelow count tree → (depth : ℕ) (behind : List Item)
    → AllMay (MayStand count) depth behind → AllMay (MayStand count) depth (flat tree ++ behind)
flat-may count Empty named depth behind may = may
flat-may count (Then leaf rest) named depth behind may =
    grind (arith, flat-may count rest named.1 depth behind may, leaf-may, leaf-depth)
flat-may count (Sub tree rest) named depth behind may = subst
    (λ (items : List Item). AllMay (MayStand count) depth items) (sym (append_assoc (flat tree) (flat rest) behind))
    (flat-may count tree named.0 depth (flat rest ++ behind) (flat-may count rest named.1 depth behind may))
flat-may count (Inner tree rest) named depth behind may = grind (
  arith,
  flat-may count tree named.0 (suc depth) (Close ∷ (flat rest ++ behind))
      (record { named = tt; is_open = omega arith }, flat-may count rest named.1 depth behind may),
  append_assoc,
)

-- ## Trimming

sign-depth : (test : Control → Bool) (item : Item) (depth : ℕ) → sign_is test item ≡ true → opened depth item ≡ depth
sign-depth test item depth is = grind arith

without-step : (count : ℕ) (item : Item) (items : List Item) (depth : ℕ) (b : Bool) → is_inserted item ≡ b
    → ((d : ℕ) → AllMay (MayStand count) d items → AllMay (MayCome count) d (without_inserted items))
    → AllMay (MayStand count) depth (item ∷ items)
    → AllMay (MayCome count) depth (if b then without_inserted items else item ∷ without_inserted items)
without-step count item items depth b is rest may = grind (arith, sign-depth)

without-may : (count : ℕ) (items : List Item) (depth : ℕ)
    → AllMay (MayStand count) depth items → AllMay (MayCome count) depth (without_inserted items)
without-may count [] depth may = may
without-may count (item ∷ items) depth may = grind (arith, without-may count items, without-step)

module _ (may : ℕ → Item → Type 0) where
  front-step : (begins : Bool) (item : Item) (items : List Item) (depth : ℕ) (b : Bool) → (begins && is_break item) ≡ b
      → ((begun : Bool) (d : ℕ) → AllMay may d items → AllMay may d (trim_front begun items))
      → AllMay may depth (item ∷ items)
      → AllMay may depth (if b then trim_front begins items else item ∷ trim_front (begins_after begins item) items)
  front-step begins item items depth b is rest all = grind (arith, sign-depth, both-right)

  front-may : (items : List Item) (begins : Bool) (depth : ℕ) → AllMay may depth items
      → AllMay may depth (trim_front begins items)
  front-may [] begins depth all = all
  front-may (item ∷ items) begins depth all = grind (arith, front-may items, front-step)

  back-step : (item : Item) (items : List Item) (depth : ℕ) (b : Bool) → (is_break item && ends_text items) ≡ b
      → ((d : ℕ) → AllMay may d items → AllMay may d (trim_back items))
      → AllMay may depth (item ∷ items) → AllMay may depth (if b then trim_back items else item ∷ trim_back items)
  back-step item items depth b is rest all = grind (arith, sign-depth, both-left)

  back-may : (items : List Item) (depth : ℕ) → AllMay may depth items → AllMay may depth (trim_back items)
  back-may [] depth all = all
  back-may (item ∷ items) depth all = grind (arith, back-may items, back-step)

pub trimmed-may : (count : ℕ) (tree : Tree) → IsNamedBelow count tree
    → AllMay (MayCome count) 0 (trimmed_items (flat tree))
trimmed-may count tree named =
    let all : AllMay (MayStand count) 0 (flat tree) = subst (λ (items : List Item). AllMay (MayStand count) 0 items)
    (append-nil (flat tree)) (flat-may count tree named 0 [] refl) in
    back-may (MayCome count) (trim_front true (without_inserted (flat tree))) 0
    (front-may (MayCome count) (without_inserted (flat tree)) true 0 (without-may count (flat tree) 0 all))

-- ## One item

pub opened-most : (depth : ℕ) (item : Item) → opened depth item ≤ suc depth
opened-most depth item = grind arith

pub can-come : (count depth : ℕ) (item : FlatItem) → MayCome count depth (item_is item) → depth < 18446744073709551615
    → CanCome count depth item
can-come count depth item may small = grind arith
