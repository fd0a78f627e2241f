-- The laws of a flat list that is trimmed as its items come.
use Rattle.cw_tokens.proofs.Terms.{◌||◌, ◌≡◌, ℕ, ◌+◌, ◌<◌, ◌≤◌, Bool, true, false, ◌&&◌, List, [], ◌∷◌, ◌++◌, length}
use Rattle.cw_tokens.proofs.Terms.{get_or, set, take, drop, refl, sym, ap, ◌∙◌, subst, arith, eqb, if◌then◌else◌}
use Rattle.cw_tokens.proofs.Terms.{append_assoc, append-nil, map-append, map_push, take-append-drop, drop-append-le}
use Rattle.cw_tokens.proofs.Terms.{take-append-le, take_all, drop_all, drop-set-lt, length-append, eq-eqb, eqb-true}
use Rattle.cw_tokens.proofs.Terms.{Item, SignItem, is_break, is_break_sign, is_run_sign, is_wall_sign, is_gap}
use Rattle.cw_tokens.proofs.Terms.{is_inserted, begins_after, ends_text, trim_back, trim_front, trimmed_items}
use Rattle.cw_tokens.proofs.Terms.{without_inserted, FlatItem, item_is, items_are, unbroken, gap_before, AllGaps, Trims}
use Rattle.cw_tokens.proofs.Terms.{parted, StandsFor}
use Rattle.cw_trees.specs.declared.Control.{Control}
use Rattle.cw_tokens.proofs.Trimming.{rest-more, item-and-rest, stored, front_step}
use Rattle.cw_tokens.specs.declared.flat.FlatItem.TheVariants as FlatItems

-- what is in no gap is no break
sign-in-none : (control : Control) → (is_run_sign control || is_wall_sign control) ≡ false → is_break_sign control
    ≡ false
sign-in-none control e = grind arith

-- what is in a gap prints something
sign-in-gap : (control : Control) → (is_run_sign control || is_wall_sign control) ≡ true
    → is_inserted (SignItem control) ≡ false
sign-in-gap control e = grind arith

neither : (a b : Bool) → a ≡ false → b ≡ false → (a || b) ≡ false
neither a b p q = grind arith

pub not-both : (a b : Bool) → b ≡ false → (a && b) ≡ false
not-both a b q = grind arith

-- which items stay
stays-in-gap : (begins : Bool) (item : Item) → is_gap item ≡ true → (begins && is_break item) ≡ false
    → (is_inserted item || (begins && is_break item)) ≡ false
stays-in-gap begins item e none = grind (arith, neither, sign-in-gap)

stays-in-none : (begins : Bool) (item : Item) → is_gap item ≡ false → is_inserted item ≡ false
    → (is_inserted item || (begins && is_break item)) ≡ false
stays-in-none begins item e none = grind (arith, neither, not-both, sign-in-none)

pub no-beginning : (begins b : Bool) → begins ≡ false → (begins && b) ≡ false
no-beginning begins b e = grind arith

-- a text that only has gaps still does behind one more
both-true : (a b : Bool) → b ≡ true → (a && b) ≡ a
both-true a b e = grind arith

begins-in-gap : (begins : Bool) (item : Item) → is_gap item ≡ true → begins_after begins item ≡ begins
begins-in-gap begins item e = grind (arith, both-true)

-- a text begins behind the bracket that opens it, and behind no other item than gaps
after-open : (begins : Bool) (item : FlatItem) → item ≡ FlatItems.Open → begins_after begins (item_is item) ≡ true
after-open begins item is = ap (λ i. begins_after begins (item_is i)) is

after-other : (begins : Bool) (item : FlatItem) → is_gap (item_is item) ≡ false → (item ≡ FlatItems.Open → ⊥)
    → begins_after begins (item_is item) ≡ false
after-other begins item e other = grind (arith, not-both)

pub not-same : (a b : ℕ) → (a ≡ b → ⊥) → eqb a b ≡ false
not-same a b other = grind (arith, eqb-true)

-- a gap ends a text where what stands behind it does
ends-gap : (gap : Item) (items : List Item) → is_gap gap ≡ true → ends_text (gap ∷ items) ≡ ends_text items
ends-gap gap items e = grind arith

ends-gaps : (gaps items : List Item) → AllGaps gaps → ends_text (gaps ++ items) ≡ ends_text items
ends-gaps [] items all = refl
ends-gaps (gap ∷ gaps) items all = ends-gap gap (gaps ++ items) all.0 ∙ ends-gaps gaps items all.1

-- before the end of a text the breaks of a gap go, and elsewhere they stay
gaps-end : (gaps items : List Item) → AllGaps gaps → ends_text items ≡ true → trim_back (gaps ++ items)
    ≡ unbroken gaps ++ trim_back items
gaps-end [] items all ends = refl
gaps-end (gap ∷ gaps) items all ends = grind (arith, gaps-end gaps items all.1 ends, ends-gaps)

gaps-stay : (gaps items : List Item) → AllGaps gaps → ends_text items ≡ false → trim_back (gaps ++ items)
    ≡ gaps ++ trim_back items
gaps-stay [] items all ends = refl
gaps-stay (gap ∷ gaps) items all ends = grind (arith, gaps-stay gaps items all.1 ends, ends-gaps)

-- what stays of a gap and the item behind it, which is in none
gap-and-item : (gaps : List Item) (item : Item) (items : List Item) → AllGaps gaps → is_gap item ≡ false
    → trim_back (gaps ++ item ∷ items) ≡ gap_before item gaps ++ item ∷ trim_back items
gap-and-item gaps item items all e = grind (arith, gaps-end, gaps-stay, sign-in-none)

all-push : (gaps : List Item) (item : Item) → AllGaps gaps → is_gap item ≡ true → AllGaps (gaps ++ item ∷ [])
all-push [] item all e = (e, tt)
all-push (gap ∷ gaps) item all e = (all.0, all-push gaps item all.1 e)

module _ (gap : ℕ) (items : List FlatItem) (begins : Bool) (item : FlatItem) (given : List Item)
    (within : gap ≤ length items) (stands : StandsFor (parted gap items begins) given) where
  abbrev came : Item
  came = item_is item

  abbrev front : List Item → List Item
  front more = trim_front (begins_after begins came) (without_inserted more)

  -- all items with one more, and whatever comes behind it
  one-more : (is_inserted came || (begins && is_break came)) ≡ false → (more : List Item) → trimmed_items ((given
      ++ came ∷ []) ++ more) ≡ items_are (take gap items) ++ trim_back (items_are (drop gap items) ++ came ∷ front more)
  one-more stays more = grind (arith, append_assoc, front_step)

  -- an item of a gap
  stands-gap : (is_inserted came || (begins && is_break came)) ≡ false → is_gap came ≡ true
      → StandsFor (parted gap (items ++ item ∷ []) (begins_after begins came)) (given ++ came ∷ [])
  stands-gap stays in_gap = grind (arith, drop-append-le, map_push, all-push, one-more, append_assoc, take-append-le)

  pub stands-longer : is_gap came ≡ true → (begins && is_break came) ≡ false
      → StandsFor (parted gap (items ++ item ∷ []) begins) (given ++ came ∷ [])
  stands-longer in_gap none = grind (arith, begins-in-gap, stands-gap, stays-in-gap)

  -- an item that is in no gap: the gap before it is settled too
  stands-settled : (kept : List FlatItem) → (is_inserted came || (begins && is_break came)) ≡ false → is_gap came
      ≡ false → items_are kept ≡ items_are (take gap items) ++ gap_before came (items_are (drop gap items)) → StandsFor
      (parted (length (kept ++ item ∷ [])) (kept ++ item ∷ []) (begins_after begins came)) (given ++ came ∷ [])
  stands-settled kept stays in_none is =
      let all = kept ++ item ∷ [] in
      let settled : take (length all) all ≡ all = take_all (length all) all (omega arith) in
      let none : drop (length all) all ≡ [] = drop_all (length all) all (omega arith) in
      let whole : items_are all ≡ (items_are (take gap items) ++ gap_before came (items_are (drop gap items))) ++ came
      ∷ [] = map_push item_is kept item ∙ ap (λ (l : List Item). l ++ came ∷ []) is in
      record {
        gaps = subst (λ (l : List FlatItem). AllGaps (items_are l)) (sym none) tt;
        stays = λ more. one-more stays more ∙ ap (λ (l : List Item). items_are (take gap items) ++ l)
            (gap-and-item (items_are (drop gap items)) came (front more) stands.gaps in_none) ∙ sym (append_assoc
            (items_are (take gap items)) (gap_before came (items_are (drop gap items))) (came ∷ trim_back (front more)))
            ∙ sym (append_assoc (items_are (take gap items) ++ gap_before came (items_are (drop gap items))) (came ∷ [])
            (trim_back (front more))) ∙ ap (λ (l : List Item). l ++ trim_back (front more)) (sym whole) ∙ ap
            (λ (l : List FlatItem). items_are l ++ trim_back (front more)) (sym settled) ∙ ap (λ (l : List FlatItem).
            items_are (take (length all) all) ++ trim_back (items_are l ++ front more)) (sym none);
      }

  module _ (kept : List FlatItem) (in_none : is_gap came ≡ false) (stays : is_inserted came ≡ false)
      (is : items_are kept ≡ items_are (take gap items) ++ gap_before came (items_are (drop gap items))) where
    abbrev all : List FlatItem
    all = kept ++ item ∷ []

    settled : StandsFor (parted (length all) all (begins_after begins came)) (given ++ came ∷ [])
    settled = stands-settled kept (stays-in-none begins came in_none stays) in_none is

    pub stands-opened : item ≡ FlatItems.Open
        → StandsFor (parted (length all) all (eqb (length all) (length all))) (given ++ came ∷ [])
    stands-opened opens = grind (arith, after-open, eq-eqb, settled)

    pub stands-other : (text : ℕ) → text ≤ length kept → (item ≡ FlatItems.Open → ⊥)
        → StandsFor (parted (length all) all (eqb (length all) text)) (given ++ came ∷ [])
    stands-other text before other = grind (arith, after-other, not-same, settled, length-append)

-- at the end
pub stands-end : (trims : Trims) (given kept : List Item) → StandsFor trims given
    → kept ≡ items_are trims.settled ++ unbroken (items_are trims.gap) → kept ≡ trimmed_items given
stands-end trims given kept stands is =
    grind (arith, append-nil (unbroken (items_are trims.gap)), append-nil given, gaps-end (items_are trims.gap))

-- a gap stays as it is before an item that ends no text
pub gap-untouched : (items : List FlatItem) (gap : ℕ) (next : FlatItem) → (next ≡ FlatItems.Close → ⊥) → items_are items
    ≡ items_are (take gap items) ++ gap_before (item_is next) (items_are (drop gap items))
gap-untouched items gap next other = ap items_are (sym (take-append-drop gap items)) ∙ map-append item_is
    (take gap items) (drop gap items) ∙ ap (λ (l : List Item). items_are (take gap items) ++ l) (sym (go next other))
  where
    go : (item : FlatItem) → (item ≡ FlatItems.Close → ⊥) → gap_before (item_is item) (items_are (drop gap items))
        ≡ items_are (drop gap items)
    go FlatItems.Close o = absurd (o refl)
    go FlatItems.Open o = refl
    go (FlatItems.Source number) o = refl
    go (FlatItems.Ident name number) o = refl
    go (FlatItems.Reserved name number) o = refl
    go (FlatItems.Control control) o = refl

-- what the walk over a gap holds at a place
pub record KeepsUnbroken (old items : List FlatItem) (gap i kept : ℕ) : Type 0 where
  pub low : kept ≤ i
  pub behind : gap ≤ kept
  pub rest : drop i items ≡ drop i old
  pub front : items_are (take kept items) ++ unbroken (items_are (drop i old))
      ≡ items_are (take gap old) ++ unbroken (items_are (drop gap old))

pub unbroken-start : (items : List FlatItem) (gap : ℕ) → KeepsUnbroken items items gap gap gap
unbroken-start items gap = record { low = omega arith; behind = omega arith; rest = refl; front = refl }

module _ (old items : List FlatItem) (gap i kept : ℕ) (d : FlatItem) (within : i < length items)
    (k : KeepsUnbroken old items gap i kept) where
  abbrev here : Item
  here = item_is (get_or items i d)

  next : (b : Bool) → is_break here ≡ b → unbroken (items_are (drop i old))
      ≡ (if b then unbroken (items_are (drop (i + 1) old)) else here ∷ unbroken (items_are (drop (i + 1) old)))
  next b is = grind (arith, item-and-rest)

  pub unbroken-kept : is_break here ≡ false → KeepsUnbroken old (set items kept (get_or items i d)) gap (i + 1)
      (kept + 1)
  unbroken-kept is =
      let low : kept ≤ i = k.low in
      let behind : gap ≤ kept = k.behind in
      let later = unbroken (items_are (drop (i + 1) old)) in
      record {
        low = omega arith;
        behind = omega arith;
        rest = drop-set-lt (i + 1) items kept (get_or items i d) (omega arith) ∙ rest-more old items i d within k.rest;
        front = ap (λ (l : List Item). l ++ later) (stored items kept (get_or items i d) (omega arith))
            ∙ append_assoc (items_are (take kept items)) (here ∷ []) later
            ∙ ap (λ (l : List Item). items_are (take kept items) ++ l) (sym (next false is)) ∙ k.front;
      }

  pub unbroken-dropped : is_break here ≡ true → KeepsUnbroken old items gap (i + 1) kept
  unbroken-dropped is = grind (arith, rest-more old items i d within k.rest, next true is)
