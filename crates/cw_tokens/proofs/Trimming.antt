-- The steps of the trimming of a flat list in its own place: what stays is moved to the front of the list.
use Rattle.cw_tokens.proofs.Terms.{◌||◌, ◌≡◌, ℕ, ◌+◌, ◌<◌, ◌≤◌, Bool, true, false, ◌&&◌, List, [], ◌∷◌, ◌++◌, length}
use Rattle.cw_tokens.proofs.Terms.{get_or, set, take, drop, reverse, refl, sym, ap, ◌∙◌, arith, length-drop}
use Rattle.cw_tokens.proofs.Terms.{if◌then◌else◌, append_assoc, drop_more, drop-set-lt, map_push, reverse-append}
use Rattle.cw_tokens.proofs.Terms.{reverse-reverse, take_more, take_more_set, take_all, drop_all, append-nil, Item}
use Rattle.cw_tokens.proofs.Terms.{is_break, is_inserted, begins_after, ends_text, trim_back, trim_front, trimmed_items}
use Rattle.cw_tokens.proofs.Terms.{without_inserted, FlatItem, item_is, items_are, ends_before}

-- what the walk from the front holds at a place: what stays of the items before it, and all items from it on
pub record KeepsFront (old items : List FlatItem) (i kept : ℕ) (begins : Bool) : Type 0 where
  pub low : kept ≤ i
  pub rest : drop i items ≡ drop i old
  pub front : items_are (take kept items) ++ trim_front begins (without_inserted (items_are (drop i old)))
      ≡ trim_front true (without_inserted (items_are old))

-- the same for the walk over a list whose last item is first
pub record KeepsBack (old items : List FlatItem) (i kept : ℕ) (ends : Bool) : Type 0 where
  pub low : kept ≤ i
  pub rest : drop i items ≡ drop i old
  pub back : reverse (items_are (take kept items)) ≡ trim_back (reverse (items_are (take i old)))
  pub ending : ends ≡ ends_text (reverse (items_are (take i old)))

-- the item at the place, in the list that is changed and in the old one
module _ (old items : List FlatItem) (i : ℕ) (d : FlatItem) (within : i < length items) (rest : drop i items
    ≡ drop i old) where
  within-old : i < length old
  within-old = omega (arith, ap length rest, length-drop i items, length-drop i old)

  parts : get_or items i d ∷ drop (i + 1) items ≡ get_or old i d ∷ drop (i + 1) old
  parts = sym (drop_more items i d within) ∙ rest ∙ drop_more old i d within-old

  same-item : get_or items i d ≡ get_or old i d
  same-item = cc (parts)

  pub rest-more : drop (i + 1) items ≡ drop (i + 1) old
  rest-more = cc (parts)

  pub item-and-rest : items_are (drop i old) ≡ item_is (get_or items i d) ∷ items_are (drop (i + 1) old)
  item-and-rest = grind (arith, drop_more, within-old, same-item)

  item-and-front : reverse (items_are (take (i + 1) old))
      ≡ item_is (get_or items i d) ∷ reverse (items_are (take i old))
  item-and-front = ap (λ l. reverse (items_are l)) (take_more old i d within-old)
      ∙ ap reverse (map_push item_is (take i old) (get_or old i d)) ∙ reverse-append (items_are (take i old))
      (item_is (get_or old i d) ∷ []) ∙ ap (λ x. item_is x ∷ reverse (items_are (take i old))) (sym same-item)

-- an item that stays
pub stored : (items : List FlatItem) (kept : ℕ) (item : FlatItem) → kept < length items
    → items_are (take (kept + 1) (set items kept item)) ≡ items_are (take kept items) ++ item_is item ∷ []
stored items kept item low = ap items_are (take_more_set items kept item low) ∙ map_push item_is (take kept items) item

pub front_step : (begins : Bool) (item : Item) (items : List Item) (b : Bool) → (is_inserted item ||
    (begins && is_break item)) ≡ b → trim_front begins (without_inserted (item ∷ items)) ≡ (if b then trim_front begins
    (without_inserted items) else item ∷ trim_front (begins_after begins item) (without_inserted items))
front_step begins item items b is = grind arith

module _ (old items : List FlatItem) (i kept : ℕ) (begins : Bool) (d : FlatItem) (within : i < length items)
    (k : KeepsFront old items i kept begins) where
  abbrev item : Item
  item = item_is (get_or items i d)

  next-front : (b : Bool) → (is_inserted item || (begins && is_break item)) ≡ b → trim_front begins (without_inserted
      (items_are (drop i old))) ≡ (if b then trim_front begins (without_inserted (items_are (drop (i + 1) old))) else
      item ∷ trim_front (begins_after begins item) (without_inserted (items_are (drop (i + 1) old))))
  next-front b is = grind (arith, item-and-rest, front_step)

  pub front-kept : (is_inserted item || (begins && is_break item)) ≡ false
      → KeepsFront old (set items kept (get_or items i d)) (i + 1) (kept + 1) (begins_after begins item)
  front-kept is =
      let low : kept ≤ i = k.low in
      let behind = trim_front (begins_after begins item) (without_inserted (items_are (drop (i + 1) old))) in
      record {
        low = omega arith;
        rest = drop-set-lt (i + 1) items kept (get_or items i d) (omega arith) ∙ rest-more old items i d within k.rest;
        front = ap (λ (l : List Item). l ++ behind) (stored items kept (get_or items i d) (omega arith))
            ∙ append_assoc (items_are (take kept items)) (item ∷ []) behind
            ∙ ap (λ (l : List Item). items_are (take kept items) ++ l) (sym (next-front false is)) ∙ k.front;
      }

  pub front-dropped : (is_inserted item || (begins && is_break item)) ≡ true → KeepsFront old items (i + 1) kept begins
  front-dropped is = grind (arith, rest-more old items i d within k.rest, next-front true is)

and-elim : (b e : Bool) → (b && e) ≡ (b && e)
and-elim b e = grind arith

ends-more : (ends : Bool) (item : Item) (items : List Item) → ends ≡ ends_text items → ends_before ends item
    ≡ ends_text (item ∷ items)
ends-more ends item items is = grind (arith, and-elim)

module _ (old items : List FlatItem) (i kept : ℕ) (ends : Bool) (d : FlatItem) (within : i < length items)
    (k : KeepsBack old items i kept ends) where
  abbrev here : Item
  here = item_is (get_or items i d)

  abbrev before : List Item
  before = reverse (items_are (take i old))

  next-back : (b : Bool) → (is_break here && ends) ≡ b → trim_back (reverse (items_are (take (i + 1) old)))
      ≡ (if b then trim_back before else here ∷ trim_back before)
  next-back b is = grind (arith, item-and-front)

  next-ending : ends_before ends here ≡ ends_text (reverse (items_are (take (i + 1) old)))
  next-ending = ends-more ends here before k.ending ∙ ap ends_text (sym (item-and-front old items i d within k.rest))

  pub back-kept : (is_break here && ends) ≡ false → KeepsBack old (set items kept (get_or items i d)) (i + 1) (kept + 1)
      (ends_before ends here)
  back-kept is =
      let low : kept ≤ i = k.low in
      record {
        low = omega arith;
        rest = drop-set-lt (i + 1) items kept (get_or items i d) (omega arith) ∙ rest-more old items i d within k.rest;
        back = ap reverse (stored items kept (get_or items i d) (omega arith)) ∙ reverse-append (items_are
            (take kept items)) (here ∷ []) ∙ ap (λ (l : List Item). here ∷ l) k.back ∙ sym (next-back false is);
        ending = next-ending;
      }

  pub back-dropped : (is_break here && ends) ≡ true → KeepsBack old items (i + 1) kept (ends_before ends here)
  back-dropped is =
      let low : kept ≤ i = k.low in
      record {
        low = omega arith;
        rest = rest-more old items i d within k.rest;
        back = k.back ∙ sym (next-back true is);
        ending = next-ending;
      }

-- a list that was changed through a reference is the changed part alone
pub whole : {X : Type 0} (n : ℕ) (xs ys : List X) → length xs ≡ n → length ys ≤ length xs
    → take n (xs ++ drop (length xs) ys) ≡ xs
whole n xs ys is less = grind (arith, drop_all, append-nil, take_all)

pub items-reversed : (items : List FlatItem) → items_are (reverse items) ≡ reverse (items_are items)
items-reversed [] = refl
items-reversed (item ∷ items) = ap items_are (reverse-append (item ∷ []) items) ∙ map_push item_is (reverse items) item
    ∙ ap (λ (l : List Item). l ++ item_is item ∷ []) (items-reversed items)
    ∙ sym (reverse-append (item_is item ∷ []) (items_are items))

-- both walks together
pub trims : (old front turned back : List Item) → front ≡ trim_front true (without_inserted old)
    → turned ≡ reverse front → reverse back ≡ trim_back (reverse turned) → reverse back ≡ trimmed_items old
trims old front turned back begins turns ends = grind (arith, reverse, reverse-reverse)
