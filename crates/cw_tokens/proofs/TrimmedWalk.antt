-- The walk that lays a tree flat and trims it.
use Rattle.cw_tokens.proofs.Terms.{◌≡◌, ℕ, zero, suc, ◌+◌, ◌-◌, ◌<◌, ◌≤◌, List, [], ◌∷◌, ◌++◌, length, reverse}
use Rattle.cw_tokens.proofs.Terms.{slice_index_or, take, drop, Some, Result, OnOk, get_or, refl, sym, ap, ◌∙◌, subst}
use Rattle.cw_tokens.proofs.Terms.{arith, slice_get, append_assoc, append-nil, reverse-append, take_all, Item}
use Rattle.cw_tokens.proofs.Terms.{Open as open_item, Close as close_item, flat, trimmed_items, Tree, Empty, Token}
use Rattle.cw_tokens.proofs.Terms.{FlatItem, Leaf as leaf_part, Shape, Plain, Below, InnerBelow, shape, ref_of, item_of}
use Rattle.cw_tokens.proofs.Terms.{tree_in, trees_from, unfolded, token_ref, IsTied, GoesAbove, IsLoneWord, MayStandFor}
use Rattle.cw_tokens.proofs.Terms.{ReferWithin, RefersWithin, closing_of, flat_above, size_of, Lays, TrimsAhead}
use Rattle.cw_tokens.proofs.Terms.{item_is, IsPart, Trims, StandsFor, size}
use Rattle.cw_tokens.specs.declared.flat.Above.{Above}
use Rattle.cw_tokens.specs.declared.walk.FlatPart.TheVariants.{Below as below_part, InnerBelow as inner_part}
use Rattle.cw_tokens.proofs.{Flattening.below-ref, Flattening.inner-ref, Unfolding.unfold-is}

-- the first of some tokens, and those behind it
pub first-is : (ts : List Token) (d : Token) → 1 ≤ length ts → ts
    ≡ slice_index_or ts 0 d ∷ take (length ts - 1) (drop 1 ts)
first-is ts d h = grind (arith, take_all)

pub last-first : (ups old : List Above) (up : Above) → old ≡ ups ++ up ∷ [] → reverse old ≡ up ∷ reverse ups
last-first ups old up e = ap reverse e ∙ reverse-append ups (up ∷ [])

-- a token laid flat before others
item-joined : (trees : List Tree) (s : Shape) (rest : Tree) → flat (item_of trees s rest) ≡ flat (item_of trees s Empty)
    ++ flat rest
item-joined trees s rest = grind (arith, append-nil, append_assoc)

item-size : (trees : List Tree) (s : Shape) (rest : Tree)
    → size (item_of trees s rest) ≤ size (item_of trees s Empty) + size rest
item-size trees s rest = grind arith

pub stands-itself : (ls : List (List Token)) (token : Token) → RefersWithin (length ls) token
    → MayStandFor ls token token
stands-itself ls token within = record { same = λ rest. refl; smaller = λ rest. omega arith; within = within }

module _ (ls : List (List Token)) (tied : IsTied ls) where
  -- the one token of a list stands for it
  module _ (x : ℕ) (only : Token) (lt : x < length ls) (one : only ∷ [] ≡ get_or ls x []) where
    only-earlier : (y : ℕ) → ref_of (shape only) ≡ Some y → y < x
    only-earlier y e = tied.earlier x 0 y (ap (λ ts. token_ref (slice_get ts 0)) (sym one) ∙ e)

    only-tree : get_or (trees_from [] ls) x Empty ≡ item_of (trees_from [] ls) (shape only) Empty
    only-tree = unfold-is ls x tied lt ∙ ap (tree_in (trees_from [] ls)) (sym one)

    pub only-stands : (token at : Token) → MayStandFor ls token at → shape at ≡ Below x → MayStandFor ls token only
    only-stands token at m e = grind (arith, item-joined, only-tree, item-size, only-earlier)

  refer-within : (count : ℕ) (ts : List Token) → ((q x : ℕ) → token_ref (slice_get ts q) ≡ Some x → x < count)
      → ReferWithin count ts
  refer-within count [] h = tt {0}
  refer-within count (t ∷ ts) h = (λ x e. h 0 x e, refer-within count ts (λ q x e. h (suc q) x e))

  list-within : (x : ℕ) (ts : List Token) → x < length ls → ts ≡ get_or ls x [] → ReferWithin (length ls) ts
  list-within x ts lt e = grind (arith, refer-within)

  list-tree : (x : ℕ) (ts : List Token) → x < length ls → ts ≡ get_or ls x [] → get_or (trees_from [] ls) x Empty
      ≡ tree_in (trees_from [] ls) ts
  list-tree x ts lt e = unfold-is ls x tied lt ∙ ap (tree_in (trees_from [] ls)) (sym e)

pub ahead-start : (ls : List (List Token)) (root : ℕ) (items : List Token) (trims : Trims) → IsTied ls → root < length
    ls → StandsFor trims [] → items ≡ get_or ls root [] → TrimsAhead ls items [] trims (flat (unfolded ls root))
ahead-start ls root items trims tied lt stands e = grind (arith, append-nil, list-tree, list-within)

append-cons : (xs ys : List Item) (x : Item) → (xs ++ x ∷ []) ++ ys ≡ xs ++ x ∷ ys
append-cons xs ys x = append_assoc xs (x ∷ []) ys

module _ (ls : List (List Token)) (t u : Token) (m : MayStandFor ls t u) (x : ℕ) where
  below-inside : IsPart (shape u) (below_part x) → x < length ls
  below-inside is = m.within x (ap ref_of (below-ref (shape u) x is))

  inner-inside : IsPart (shape u) (inner_part x) → x < length ls
  inner-inside is = m.within x (ap ref_of (inner-ref (shape u) x is))

-- there is less to walk behind a token
module _ (ls : List (List Token)) (t : Token) (behind : List Token) (above : List Above) (u : Token)
    (m : MayStandFor ls t u) where
  leaf-less : (item : FlatItem) → IsPart (shape u) (leaf_part item) → size (tree_in (trees_from [] ls) behind) + size_of
      ls above < size (item_of (trees_from [] ls) (shape t) (tree_in (trees_from [] ls) behind)) + size_of ls above
  leaf-less item is = grind arith

  module _ (x : ℕ) (below : List Token) (tied : IsTied ls) (read : below ≡ get_or ls x []) (new : List Above) where
    below-less-of : x < length ls → (s : Shape) (closes : ℕ) → size (item_of (trees_from [] ls) s
        (tree_in (trees_from [] ls) behind)) ≡ 2 + (size (unfolded ls x) + size (tree_in (trees_from [] ls) behind))
        → s ≡ shape u → GoesAbove behind closes above new → size (tree_in (trees_from [] ls) below) + size_of ls new <
        size (item_of (trees_from [] ls) (shape t) (tree_in (trees_from [] ls) behind)) + size_of ls above
    below-less-of inside s closes e same up = grind (arith, list-tree)

    below-smaller : IsPart (shape u) (below_part x) → GoesAbove behind 0 above new
        → size (tree_in (trees_from [] ls) below) + size_of ls new < size
        (item_of (trees_from [] ls) (shape t) (tree_in (trees_from [] ls) behind)) + size_of ls above
    below-smaller is up = grind (arith, below-less-of, below-inside, below-ref)

    inner-smaller : IsPart (shape u) (inner_part x) → GoesAbove behind 1 above new
        → size (tree_in (trees_from [] ls) below) + size_of ls new < size
        (item_of (trees_from [] ls) (shape t) (tree_in (trees_from [] ls) behind)) + size_of ls above
    inner-smaller is up = grind (arith, below-less-of, inner-inside, inner-ref)

module _ (ls : List (List Token)) (t : Token) (behind : List Token) (above : List Above) (trims : Trims)
    (all : List Item) (w : TrimsAhead ls (t ∷ behind) above trims all) (u : Token) (m : MayStandFor ls t u) where
  -- what is to come, by the token that stands for the first
  by-other : w.given ++ (flat (item_of (trees_from [] ls) (shape u) (tree_in (trees_from [] ls) behind))
      ++ flat_above ls above) ≡ all
  by-other = ap (λ xs. w.given ++ (xs ++ flat_above ls above)) (m.same (tree_in (trees_from [] ls) behind)) ∙ w.is

  pub ahead-leaf : (new : Trims) (item : FlatItem) → IsPart (shape u) (leaf_part item) → ((given : List Item)
      → StandsFor trims given → StandsFor new (given ++ item_is item ∷ [])) → TrimsAhead ls behind above new all
  ahead-leaf new item is push = record {
    given = w.given ++ item_is item ∷ [];
    is = append-cons w.given (flat (tree_in (trees_from [] ls) behind) ++ flat_above ls above) (item_is item)
        ∙ (ap (λ xs. w.given ++ (xs ++ flat_above ls above)) (sym (first (shape u) is)) ∙ by-other);
    stands = push w.given w.stands;
    within = w.within.1;
    others = w.others;
  }
    where
      first : (s : Shape) → IsPart s (leaf_part item) → flat (item_of (trees_from [] ls) s
          (tree_in (trees_from [] ls) behind)) ≡ item_is item ∷ flat (tree_in (trees_from [] ls) behind)
      first (Plain leaf) e = ap (λ x. x ∷ flat (tree_in (trees_from [] ls) behind)) e
      first (Below x) e = absurd e
      first (InnerBelow x) e = absurd e

  module _ (x : ℕ) (below : List Token) (tied : IsTied ls) (read : below ≡ get_or ls x []) (new : List Above) where
    pub ahead-below : IsPart (shape u) (below_part x) → GoesAbove behind 0 above new → TrimsAhead ls below new trims all
    ahead-below is up = grind (arith, list-tree, below-inside, append_assoc, below-ref, by-other, list-within)

    pub ahead-inner : (after : Trims) → IsPart (shape u) (inner_part x) → GoesAbove behind 1 above new → ((given : List
        Item) → StandsFor trims given → StandsFor after (given ++ open_item ∷ [])) → TrimsAhead ls below new after all
    ahead-inner after is up push = record {
      given = w.given ++ open_item ∷ [];
      is = ap (λ xs. (w.given ++ open_item ∷ []) ++ (flat (tree_in (trees_from [] ls) below) ++ xs)) (up.items ls)
          ∙ (append-cons w.given (flat (tree_in (trees_from [] ls) below) ++ (close_item ∷ (flat
          (tree_in (trees_from [] ls) behind) ++ flat_above ls above))) open_item ∙ (ap (λ (t : Tree). w.given
          ++ open_item ∷ (flat t ++ (close_item ∷ (flat (tree_in (trees_from [] ls) behind) ++ flat_above ls above))))
          (sym (list-tree ls tied x below (inner-inside ls t u m x is) read)) ∙ (ap (λ xs. w.given ++ open_item ∷ xs)
          (sym (append_assoc (flat (unfolded ls x)) (close_item ∷ flat (tree_in (trees_from [] ls) behind))
          (flat_above ls above))) ∙ (ap (λ (s : Shape). w.given ++ (flat (item_of (trees_from [] ls) s
          (tree_in (trees_from [] ls) behind)) ++ flat_above ls above)) (sym (inner-ref (shape u) x is)) ∙ by-other))));
      stands = push w.given w.stands;
      within = list-within ls tied x below (inner-inside ls t u m x is) read;
      others = up.within (length ls) w.within.1 w.others;
    }

pub first-within : (count : ℕ) (rest : List Token) (d : Token) → ReferWithin count rest → 1 ≤ length rest
    → RefersWithin count (slice_index_or rest 0 d)
first-within count [] d w some = absurd (omega arith)
first-within count (t ∷ ts) d w some = w.0

-- the first token, as it is read, may stand for itself
pub first-itself : (ls : List (List Token)) (rest : List Token) (d u : Token) → slice_index_or rest 0 d ≡ u
    → ReferWithin (length ls) rest → 1 ≤ length rest → MayStandFor ls (slice_index_or rest 0 d) u
first-itself ls rest d u e within some = grind (arith, slice_index_or, stands-itself, first-within)

-- a walk goes on by one token
module _ (ls : List (List Token)) (tied : IsTied ls) (first : List Token) (old : List Above) (before : Trims)
    (rest : List Token) (above : List Above) (trims : Trims) (w : Lays ls first old before rest above trims)
    (d : Token) (some : 1 ≤ length rest) (u : Token) (m : MayStandFor ls (slice_index_or rest 0 d) u) where
  abbrev t : Token
  t = slice_index_or rest 0 d

  abbrev behind : List Token
  behind = take (length rest - 1) (drop 1 rest)

  now : Lays ls first old before (t ∷ behind) above trims
  now = subst (λ ts. Lays ls first old before ts above trims) (first-is rest d some) w

  pub lays-leaf : (new : Trims) (item : FlatItem) → IsPart (shape u) (leaf_part item) → ((given : List Item) → StandsFor
      trims given → StandsFor new (given ++ item_is item ∷ [])) → Lays ls first old before behind above new
  lays-leaf new item is push = record {
    items = λ all a. ahead-leaf ls t behind above trims all (now.items all a) u m new item is push;
    no_more = omega (arith, leaf-less ls t behind above u m item is, now.no_more);
    within = now.within.1;
  }

  pub lays-below : (x : ℕ) (below : List Token) → below ≡ get_or ls x [] → (new : List Above)
      → IsPart (shape u) (below_part x) → GoesAbove behind 0 above new → Lays ls first old before below new trims
  lays-below x below read new is up = record {
    items = λ all a. ahead-below ls t behind above trims all (now.items all a) u m x below tied read new is up;
    no_more = omega (arith, below-smaller ls t behind above u m x below tied read new is up, now.no_more);
    within = list-within ls tied x below (below-inside ls t u m x is) read;
  }

  module _ (x : ℕ) (below : List Token) (read : below ≡ get_or ls x []) (new : List Above) where
    pub list-less : IsPart (shape u) (below_part x) → GoesAbove behind 0 above new → size (tree_in (trees_from [] ls)
        below) + size_of ls new < size (tree_in (trees_from [] ls) rest) + size_of ls above
    list-less is up = grind (arith, first-is, below-smaller)

    pub inner-less : IsPart (shape u) (inner_part x) → GoesAbove behind 1 above new → size (tree_in (trees_from [] ls)
        below) + size_of ls new < size (tree_in (trees_from [] ls) rest) + size_of ls above
    inner-less is up = grind (arith, first-is, inner-smaller)

  pub lays-inner : (x : ℕ) (below : List Token) → below ≡ get_or ls x [] → (new : List Above) (after : Trims)
      → IsPart (shape u) (inner_part x) → GoesAbove behind 1 above new → ((given : List Item) → StandsFor trims given
      → StandsFor after (given ++ open_item ∷ [])) → Lays ls first old before below new after
  lays-inner x below read new after is up push = record {
    items = λ all a.
        ahead-inner ls t behind above trims all (now.items all a) u m x below tied read new after is up push;
    no_more = omega (arith, inner-smaller ls t behind above u m x below tied read new is up, now.no_more);
    within = list-within ls tied x below (inner-inside ls t u m x is) read;
  }

-- A list of one word is laid flat as that word.
pub lays-word : (ls : List (List Token)) (tied : IsTied ls) (first : List Token) (old : List Above) (before : Trims)
    (rest : List Token) (above : List Above) (trims : Trims) (w : Lays ls first old before rest above trims) (d : Token)
    (some : 1 ≤ length rest) (u : Token) (m : MayStandFor ls (slice_index_or rest 0 d) u) (x : ℕ) (below : List Token)
    → below ≡ get_or ls x [] → IsPart (shape u) (below_part x) → (item : FlatItem) → IsLoneWord below item
    → {new : Trims} → ((given : List Item) → StandsFor trims given → StandsFor new (given ++ item_is item ∷ []))
    → Lays ls first old before (take (length rest - 1) (drop 1 rest)) above new
lays-word ls tied first old before rest above trims w d some u m x below read is item word {new} push =
    lays-leaf ls tied first old before rest above trims w d some word.only
    (only-stands ls tied x word.only (below-inside ls (slice_index_or rest 0 d) u m x is) (sym word.is ∙ read)
    (slice_index_or rest 0 d) u m (below-ref (shape u) x is)) new item word.part push

-- a list has ended, and the one above it goes on
pub ahead-up : (ls : List (List Token)) (up : Above) (ups : List Above) (trims new : Trims) (all : List Item)
    → TrimsAhead ls [] (up ∷ ups) trims all → ((given : List Item) → StandsFor trims given → StandsFor new
    (given ++ closing_of up.closes)) → TrimsAhead ls up.rest.now ups new all
ahead-up ls up ups trims new all w push = record {
  given = w.given ++ closing_of up.closes;
  is = append_assoc w.given (closing_of up.closes) (flat (tree_in (trees_from [] ls) up.rest.now) ++ flat_above ls ups)
      ∙ w.is;
  stands = push w.given w.stands;
  within = w.others.0;
  others = w.others.1;
}

pub ahead-popped : (ls : List (List Token)) (old ups : List Above) (up : Above) (trims new : Trims) (all : List Item)
    → TrimsAhead ls [] (reverse old) trims all → old ≡ ups ++ up ∷ [] → ((given : List Item) → StandsFor trims given
    → StandsFor new (given ++ closing_of up.closes)) → TrimsAhead ls up.rest.now (reverse ups) new all
ahead-popped ls old ups up trims new all w last push = grind (arith, ahead-up, reverse, last-first)

-- all have ended
pub ahead-end : (ls : List (List Token)) (above : List Above) (trims : Trims) (all kept : List Item)
    → TrimsAhead ls [] (reverse above) trims all → length above ≡ 0
    → ((given : List Item) → StandsFor trims given → kept ≡ trimmed_items given) → kept ≡ trimmed_items all
ahead-end ls [] trims all kept w none done = grind (arith, append-nil)
ahead-end ls (up ∷ ups) trims all kept w none done = absurd (omega (arith, none))

-- a bracket closes
pub closes-one : {E : Type 0} (closes : ℕ) (result : Result Unit E) (old new : Trims) → (closes ≡ 0 → ⊥)
    → OnOk result ((given : List Item) → StandsFor old given → StandsFor new (given ++ close_item ∷ []))
    → OnOk result ((given : List Item) → StandsFor old given → StandsFor new (given ++ closing_of closes))
closes-one zero result old new h k = absurd (h refl)
closes-one (suc n) result old new h k = k
