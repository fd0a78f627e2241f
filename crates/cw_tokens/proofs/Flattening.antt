-- The walk that lays a tree flat.
use Rattle.cw_tokens.proofs.Terms.{◌≡◌, ℕ, zero, suc, ◌+◌, ◌-◌, ◌<◌, ◌≤◌, List, [], ◌∷◌, ◌++◌, length, Some, drop}
use Rattle.cw_tokens.proofs.Terms.{get_or, refl, sym, ap, ◌∙◌, arith, slice_get, drop_all, append_assoc, append-nil}
use Rattle.cw_tokens.proofs.Terms.{map_push, slice_get_within, Item, Open as open_item, Close as close_item, flat}
use Rattle.cw_tokens.proofs.Terms.{Token, FlatItem, Link, Leaf as leaf_part, Shape, Below, InnerBelow, shape, ref_of}
use Rattle.cw_tokens.proofs.Terms.{item_of, tree_in, trees_from, unfolded, token_ref, refers, IsTied, Reach, here, next}
use Rattle.cw_tokens.proofs.Terms.{no_link, IsLinked, item_is, items_are, IsPart, closing, closing_at, flat_from}
use Rattle.cw_tokens.proofs.Terms.{to_come, Flattens}
use Rattle.cw_tokens.specs.declared.walk.FlatPart.TheVariants.{Below as below_part, InnerBelow as inner_part}
use Rattle.cw_tokens.proofs.{Linking.refers-within, Unfolding.unfold-is, Unfolding.reach-le, Searching.drop-at}

-- how far the walk has come, and the list at hand is read
pub record ReadsFlat (lists : List (List Token)) (root list place : ℕ) (items : List Token) (given all : List Item) :
    Type 0 where
  pub flattens : Flattens lists root list place given all
  pub here : items ≡ get_or lists list []

flat-at : (ls : List (List Token)) (l p : ℕ) (t : Token) → slice_get (get_or ls l []) p ≡ Some t → flat_from ls l p
    ≡ flat (item_of (trees_from [] ls) (shape t) (tree_in (trees_from [] ls) (drop (p + 1) (get_or ls l []))))
flat-at ls l p t e = grind (arith, drop-at)

flat-end : (ls : List (List Token)) (l p : ℕ) → length (get_or ls l []) ≤ p → flat_from ls l p ≡ []
flat-end ls l p h = ap (λ us. flat (tree_in (trees_from [] ls) us)) (drop_all p (get_or ls l []) h)

flat-start : (ls : List (List Token)) (l : ℕ) → IsTied ls → l < length ls → flat_from ls l 0 ≡ flat (unfolded ls l)
flat-start ls l tied h = ap flat (sym (unfold-is ls l tied h))

pub items-push : (items : List FlatItem) (item : FlatItem) → items_are (items ++ item ∷ []) ≡ items_are items
    ++ item_is item ∷ []
items-push items item = map_push item_is items item

append-cons : (xs ys : List Item) (x : Item) → (xs ++ x ∷ []) ++ ys ≡ xs ++ x ∷ ys
append-cons xs ys x = append_assoc xs (x ∷ []) ys

pub flattens-start : (ls : List (List Token)) (root : ℕ) (given : List Item) → IsTied ls → root < length ls
    → Flattens ls root root 0 given (given ++ flat (unfolded ls root))
flattens-start ls root given tied lt = record {
  way = here;
  is = ap (λ xs. given ++ xs) (append-nil (flat_from ls root 0) ∙ flat-start ls root tied lt);
  inside = lt;
  within = omega arith;
}

pub below-ref : (s : Shape) (x : ℕ) → IsPart s (below_part x) → s ≡ Below x
below-ref s x e = grind arith

pub inner-ref : (s : Shape) (x : ℕ) → IsPart s (inner_part x) → s ≡ InnerBelow x
inner-ref s x e = grind arith

module _ (ls : List (List Token)) (root l p : ℕ) (all : List Item) (t : Token) (at : slice_get (get_or ls l []) p
    ≡ Some t) where
  pub flattens-leaf : (given : List Item) (item : FlatItem) → Flattens ls root l p given all
      → IsPart (shape t) (leaf_part item) → Flattens ls root l (p + 1) (given ++ item_is item ∷ []) all
  flattens-leaf given item f is = grind (
    arith,
    append-cons given (flat_from ls l (p + 1) ++ to_come ls root l f.way) (item_is item),
    flat-at ls l p t at,
    slice_get_within (get_or ls l []) p t at,
  )

  pub flattens-below : (given : List Item) (x : ℕ) → IsTied ls → Flattens ls root l p given all
      → IsPart (shape t) (below_part x) → Flattens ls root x 0 given all
  flattens-below given x tied f is =
      let s : shape t ≡ Below x = below-ref (shape t) x is in
      let r : refers ls l p ≡ Some x = ap token_ref at ∙ ap ref_of s in
      let low : x < l = tied.earlier l p x r in
      let in_store : l < length ls = f.inside in
      record {
        way = next l p x r f.way;
        is = ap (λ o. given ++ (flat_from ls x 0 ++ (closing_at o ++ (flat_from ls l (p + 1) ++ to_come ls root l
            f.way)))) at ∙ (ap (λ w. given ++ (flat_from ls x 0 ++ (closing w ++ (flat_from ls l (p + 1) ++ to_come ls
            root l f.way)))) s ∙ (ap (λ xs. given ++ (xs ++ (flat_from ls l (p + 1) ++ to_come ls root l f.way)))
            (flat-start ls x tied (omega arith)) ∙ (ap (λ xs. given ++ xs) (sym (append_assoc (flat (unfolded ls x))
            (flat_from ls l (p + 1)) (to_come ls root l f.way))) ∙ (ap (λ w. given ++ (flat (item_of (trees_from [] ls)
            w (tree_in (trees_from [] ls) (drop (p + 1) (get_or ls l [])))) ++ to_come ls root l f.way)) (sym s)
            ∙ (ap (λ xs. given ++ (xs ++ to_come ls root l f.way)) (sym (flat-at ls l p t at)) ∙ f.is)))));
        inside = omega arith;
        within = omega arith;
      }

  pub flattens-inner : (given : List Item) (x : ℕ) → IsTied ls → Flattens ls root l p given all
      → IsPart (shape t) (inner_part x) → Flattens ls root x 0 (given ++ open_item ∷ []) all
  flattens-inner given x tied f is =
      let s : shape t ≡ InnerBelow x = inner-ref (shape t) x is in
      let r : refers ls l p ≡ Some x = ap token_ref at ∙ ap ref_of s in
      let low : x < l = tied.earlier l p x r in
      let in_store : l < length ls = f.inside in
      record {
        way = next l p x r f.way;
        is = append-cons given (flat_from ls x 0 ++ (closing_at (slice_get (get_or ls l []) p) ++ (flat_from ls l
            (p + 1) ++ to_come ls root l f.way))) open_item ∙ (ap (λ o. given ++ open_item ∷ (flat_from ls x 0
            ++ (closing_at o ++ (flat_from ls l (p + 1) ++ to_come ls root l f.way)))) at ∙ (ap (λ w. given ++ open_item
            ∷ (flat_from ls x 0 ++ (closing w ++ (flat_from ls l (p + 1) ++ to_come ls root l f.way)))) s ∙ (ap
            (λ xs. given ++ open_item ∷ (xs ++ (close_item ∷ (flat_from ls l (p + 1) ++ to_come ls root l f.way))))
            (flat-start ls x tied (omega arith)) ∙ (ap (λ xs. given ++ open_item ∷ xs)
            (sym (append_assoc (flat (unfolded ls x)) (close_item ∷ flat_from ls l (p + 1)) (to_come ls root l f.way)))
            ∙ (ap (λ w. given ++ (flat (item_of (trees_from [] ls) w
            (tree_in (trees_from [] ls) (drop (p + 1) (get_or ls l [])))) ++ to_come ls root l f.way)) (sym s)
            ∙ (ap (λ xs. given ++ (xs ++ to_come ls root l f.way)) (sym (flat-at ls l p t at)) ∙ f.is))))));
        inside = omega arith;
        within = omega arith;
      }

-- from a list the walk goes up to the token that refers to it
pub record Ups (ls : List (List Token)) (links : List Link) (root x : ℕ) (given all : List Item) : Type 0 where
  pub list : ℕ
  pub place : ℕ
  pub token : Token
  pub link : get_or links x no_link ≡ record { list = list; place = place + 1 }
  pub at : slice_get (get_or ls list []) place ≡ Some token
  pub inside : list < length ls
  pub below : place < length (get_or ls list [])
  pub rest : Flattens ls root list (place + 1) (given ++ closing (shape token)) all

ref-token : (ts : List Token) (p x : ℕ) → token_ref (slice_get ts p) ≡ Some x → (t : Token) × (slice_get ts p ≡ Some t)
ref-token [] p x e = grind arith
ref-token (t ∷ ts) zero x e = (t, refl)
ref-token (t ∷ ts) (suc p) x e = ref-token ts p x e

pub flattens-up : (ls : List (List Token)) (links : List Link) (root x p : ℕ) (given all : List Item)
    → IsLinked ls links → Flattens ls root x p given all → length (get_or ls x []) ≤ p → (x ≡ root → ⊥)
    → Ups ls links root x given all
flattens-up ls links root x p given all linked f end apart =
    go x f.way apart (ap (λ xs. given ++ (xs ++ to_come ls root x f.way)) (sym (flat-end ls x p end)) ∙ f.is)
  where
    go : (y : ℕ) (way : Reach ls root y) → (y ≡ root → ⊥) → given ++ to_come ls root y way ≡ all
        → Ups ls links root y given all
    go y here a e = absurd (a refl)
    go y (next l q m r way) a e =
        let tok : (t : Token) × (slice_get (get_or ls l []) q ≡ Some t) = ref-token (get_or ls l []) q y r in
        let lt : q < length (get_or ls l []) = slice_get_within (get_or ls l []) q tok.0 tok.1 in
        record {
          list = l;
          place = q;
          token = tok.0;
          link = linked.up l q y r;
          at = tok.1;
          inside = refers-within ls l q y r;
          below = lt;
          rest = record {
            way = way;
            is = append_assoc given (closing (shape tok.0)) (flat_from ls l (q + 1) ++ to_come ls root l way) ∙ (ap
                (λ o. given ++ (closing_at o ++ (flat_from ls l (q + 1) ++ to_come ls root l way))) (sym tok.1) ∙ e);
            inside = refers-within ls l q y r;
            within = omega arith;
          };
        }

-- at the end of the root all is given
pub flattens-end : (ls : List (List Token)) (root p : ℕ) (given all : List Item) → IsTied ls
    → Flattens ls root root p given all → length (get_or ls root []) ≤ p → given ≡ all
flattens-end ls root p given all tied f end = sym (append-nil given) ∙ (ap (λ xs. given ++ xs) (sym (nothing root f.way
    refl)) ∙ (ap (λ xs. given ++ (xs ++ to_come ls root root f.way)) (sym (flat-end ls root p end)) ∙ f.is))
  where
    nothing : (y : ℕ) (way : Reach ls root y) → y ≡ root → to_come ls root y way ≡ []
    nothing y here e = refl
    nothing y (next l q m r way) e =
        let low : y < l = tied.earlier l q y r in
        let high : l ≤ root = reach-le ls root l tied way in
        absurd (omega arith)

pub record UpStep (ls : List (List Token)) (k : Link) : Type 0 where
  pub inside : k.list < length ls
  pub some : 0 < k.place
  pub within : k.place ≤ length (get_or ls k.list [])

pub up-step : (ls : List (List Token)) (links : List Link) (root x : ℕ) (given all : List Item) (k : Link)
    → Ups ls links root x given all → k ≡ get_or links x no_link → UpStep ls k
up-step ls links root x given all k u e = grind arith

pub up-flattens : (ls : List (List Token)) (links : List Link) (root x : ℕ) (given all new : List Item) (k : Link)
    (b : Token) → Ups ls links root x given all → k ≡ get_or links x no_link → slice_get (get_or ls k.list [])
    (k.place - 1) ≡ Some b → new ≡ given ++ closing (shape b) → Flattens ls root k.list k.place new all
up-flattens ls links root x given all new k b u e at is = grind arith
