-- The walk that looks for the first identifier of a tree.
use Rattle.cw_tokens.proofs.Terms.{◌≡◌, ℕ, zero, suc, ◌+◌, ◌<◌, ◌≤◌, List, [], ◌∷◌, length, Some, None, take, drop}
use Rattle.cw_tokens.proofs.Terms.{get_or, refl, sym, ap, ◌∙◌, subst, arith, slice_get, take_all, take-take}
use Rattle.cw_tokens.proofs.Terms.{slice_get_within, Tree, Empty, Search, Found, Stopped, Nothing, or_else, first_ident}
use Rattle.cw_tokens.proofs.Terms.{Token, Ident, Link, Spot, Shape, Plain, Below, InnerBelow, shape, ref_of, item_of}
use Rattle.cw_tokens.proofs.Terms.{tree_in, trees_from, unfolded, token_ref, refers, IsTied, no_link, IsLinked}
use Rattle.cw_tokens.proofs.Terms.{IsPassed, stops_at, before, Path, top, down, Walks, Finds, found_name}
use Rattle.cw_tokens.proofs.{Linking.refers-within, Linking.linked-tied, Unfolding.unfold-is}

-- a list in which nothing stands before a place
or_else-first : (s t u : Search) → or_else (or_else s t) u ≡ or_else s (or_else t u)
or_else-first s t u = grind arith

-- the search of an item, without what follows
abbrev pub item_search : List Tree → Shape → Search
item_search trees s = first_ident (item_of trees s Empty)

pub first-item : (trees : List Tree) (s : Shape) (rest : Tree) → first_ident (item_of trees s rest)
    ≡ or_else (item_search trees s) (first_ident rest)
first-item trees s rest = grind arith

pub drop-at : (ts : List Token) (p : ℕ) (t : Token) → slice_get ts p ≡ Some t → drop p ts ≡ t ∷ drop (suc p) ts
drop-at [] p t e = cc
drop-at (u ∷ ts) zero t e = grind arith
drop-at (u ∷ ts) (suc p) t e = drop-at ts p t e

-- what a list holds is what stands before a place, and then what stands from there on
first-split : (trees : List Tree) (ts : List Token) (p : ℕ) → first_ident (tree_in trees ts)
    ≡ or_else (first_ident (tree_in trees (take p ts))) (first_ident (tree_in trees (drop p ts)))
first-split trees ts zero = refl
first-split trees [] (suc p) = refl
first-split trees (t ∷ ts) (suc p) = grind (arith, first-split trees ts p, first-item, or_else-first)

take-at : (ts : List Token) (p : ℕ) (t : Token) → slice_get ts p ≡ Some t → take p (take (suc p) ts) ≡ take p ts
take-at ts p t e = take-take p (suc p) ts (omega arith)

drop-take-at : (ts : List Token) (p : ℕ) (t : Token) → slice_get ts p ≡ Some t → drop p (take (suc p) ts) ≡ t ∷ []
drop-take-at [] p t e = cc
drop-take-at (u ∷ ts) zero t e = grind arith
drop-take-at (u ∷ ts) (suc p) t e = drop-take-at ts p t e

-- nothing stands before p, so the list's search is that of token p and what follows
pub first-at : (trees : List Tree) (ts : List Token) (p : ℕ) (t : Token) → slice_get ts p ≡ Some t
    → first_ident (tree_in trees (take p ts)) ≡ Nothing
    → first_ident (tree_in trees ts) ≡ first_ident (item_of trees (shape t) (tree_in trees (drop (suc p) ts)))
first-at trees ts p t e n = first-split trees ts p ∙ (ap (λ s. or_else s (first_ident (tree_in trees (drop p ts)))) n
    ∙ ap (λ us. first_ident (tree_in trees us)) (drop-at ts p t e))

-- and the search before p + 1 is that of token p
pub first-before : (trees : List Tree) (ts : List Token) (p : ℕ) (t : Token) → slice_get ts p ≡ Some t → first_ident
    (tree_in trees (take p ts)) ≡ Nothing → first_ident (tree_in trees (take (p + 1) ts)) ≡ item_search trees (shape t)
first-before trees ts p t e n =
    grind (arith, first-split trees (take (suc p) ts) p, take-at ts p t e, drop-take-at ts p t e)

pub passed-none : (trees : List Tree) (s : Shape) → IsPassed s → item_search trees s ≡ Nothing
passed-none trees s h = grind arith

or_else-stays : (s t : Search) → (s ≡ Nothing → ⊥) → or_else s t ≡ s
or_else-stays s t h = grind arith

module _ (ls : List (List Token)) (root : ℕ) (tied : IsTied ls) where
  abbrev trees : List Tree
  trees = trees_from [] ls

  pub path-in : (l : ℕ) → root < length ls → Path ls root l → l < length ls
  path-in l lt top = lt
  path-in l lt (down m p x t e s n w) =
      let r : refers ls m p ≡ Some l = ap token_ref e ∙ ap ref_of s in
      let a : l < m = tied.earlier m p l r in
      let b : m < length ls = refers-within ls m p l r in
      omega arith

  pub below-first : (m p x : ℕ) (t : Token) → slice_get (get_or ls m []) p ≡ Some t → shape t ≡ Below x
      → first_ident (before ls m p) ≡ Nothing → m < length ls → (s : Search) → (s ≡ Nothing → ⊥)
      → first_ident (unfolded ls x) ≡ s → first_ident (unfolded ls m) ≡ s
  below-first m p x t e h n lt s some f = ap first_ident (unfold-is ls m tied lt) ∙ (first-at trees (get_or ls m []) p t
      e n ∙ (ap (λ q. first_ident (item_of trees q (tree_in trees (drop (suc p) (get_or ls m []))))) h
      ∙ (ap (λ q. or_else q (first_ident (tree_in trees (drop (suc p) (get_or ls m []))))) f
      ∙ or_else-stays s (first_ident (tree_in trees (drop (suc p) (get_or ls m [])))) some)))

  -- what is found in a list on the way is found in the root
  pub root-first : (l : ℕ) → root < length ls → Path ls root l → (s : Search) → (s ≡ Nothing → ⊥)
      → first_ident (unfolded ls l) ≡ s → first_ident (unfolded ls root) ≡ s
  root-first l lt top s some f = f
  root-first l lt (down m p x t e h n w) s some f =
      root-first m lt w s some (below-first m p l t e h n (path-in m lt w) s some f)

  -- the search at a token that ends it
  at-token : (l p : ℕ) (t : Token) → root < length ls → Walks ls root l p → slice_get (get_or ls l []) p ≡ Some t
      → (s : Search) → (s ≡ Nothing → ⊥)
      → ((rest : Tree) → first_ident (item_of trees (shape t) rest) ≡ s) → first_ident (unfolded ls root) ≡ s
  at-token l p t lt w e s some f = root-first l lt w.path s some (ap first_ident (unfold-is ls l tied w.inside)
      ∙ (first-at trees (get_or ls l []) p t e w.none ∙ f (tree_in trees (drop (suc p) (get_or ls l [])))))

  pub walks-found : (spot : Spot) → root < length ls → Walks ls root spot.list spot.place
      → slice_get (get_or ls spot.list []) spot.place ≡ Some (Ident spot.name spot.number) → Finds ls root spot
  walks-found spot lt w e = record {
    walks = w;
    token = e;
    first = at-token spot.list spot.place (Ident spot.name spot.number) lt w e (Found spot.name.index)
        (not-nothing spot.name.index) (λ rest. refl);
  }
    where
      not-nothing : (n : ℕ) → Found n ≡ Nothing → ⊥
      not-nothing n k = cc

  pub walks-stopped : (l p : ℕ) (t : Token) → root < length ls → Walks ls root l p → slice_get (get_or ls l []) p
      ≡ Some t → stops_at (shape t) ≡ Stopped → found_name (first_ident (unfolded ls root)) ≡ None
  walks-stopped l p t lt w e h = ap found_name (at-token l p t lt w e Stopped not-nothing
      (λ rest. stopped (shape t) rest h))
    where
      not-nothing : Stopped ≡ Nothing → ⊥
      not-nothing k = cc

      stopped : (s : Shape) (rest : Tree) → stops_at s ≡ Stopped → first_ident (item_of trees s rest) ≡ Stopped
      stopped (Plain leaf) rest k = ap (λ x. or_else x (first_ident rest)) k
      stopped (Below x) rest k = cc
      stopped (InnerBelow x) rest k = cc

  pub walks-ended : (p : ℕ) → Walks ls root root p → length (get_or ls root []) ≤ p
      → found_name (first_ident (unfolded ls root)) ≡ None
  walks-ended p w h = grind (arith, unfold-is, take_all)

  pub walks-start : root < length ls → Walks ls root root 0
  walks-start lt = record { path = top; none = refl; inside = lt; within = omega arith }

  pub walks-pass : (l p : ℕ) (t : Token) → Walks ls root l p → slice_get (get_or ls l []) p ≡ Some t
      → IsPassed (shape t) → Walks ls root l (p + 1)
  walks-pass l p t w e h = record {
    path = w.path;
    none = first-before trees (get_or ls l []) p t e w.none ∙ passed-none trees (shape t) h;
    inside = w.inside;
    within = let lt : p < length (get_or ls l []) = slice_get_within (get_or ls l []) p t e in omega arith;
  }

  pub walks-down : (l p x : ℕ) (t : Token) → Walks ls root l p → slice_get (get_or ls l []) p ≡ Some t → shape t
      ≡ Below x → Walks ls root x 0
  walks-down l p x t w e h =
      let r : refers ls l p ≡ Some x = ap token_ref e ∙ ap ref_of h in
      let a : x < l = tied.earlier l p x r in
      let b : l < length ls = w.inside in
      record { path = down l p x t e h w.none w.path; none = refl; inside = omega arith; within = omega arith }

-- At the end of a list that holds nothing the walk goes on behind the token that refers to it.
pub walks-up : (ls : List (List Token)) (links : List Link) (root x p : ℕ) → IsLinked ls links → Walks ls root x p
    → length (get_or ls x []) ≤ p → (x ≡ root → ⊥)
    → Walks ls root (get_or links x no_link).list (get_or links x no_link).place
walks-up ls links root x p linked w end apart = go x w.path apart nothing
  where
    nothing : first_ident (unfolded ls x) ≡ Nothing
    nothing = ap first_ident (unfold-is ls x (linked-tied ls links linked) w.inside)
        ∙ (ap (λ us. first_ident (tree_in (trees_from [] ls) us)) (sym (take_all p (get_or ls x []) end)) ∙ w.none)

    go : (y : ℕ) → Path ls root y → (y ≡ root → ⊥) → first_ident (unfolded ls y) ≡ Nothing
        → Walks ls root (get_or links y no_link).list (get_or links y no_link).place
    go y top a n = absurd (a refl)
    go y (down l q m t e h none path) a n =
        let r : refers ls l q ≡ Some y = ap token_ref e ∙ ap ref_of h in
        let up : get_or links y no_link ≡ record { list = l; place = q + 1 } = linked.up l q y r in
        let lt : q < length (get_or ls l []) = slice_get_within (get_or ls l []) q t e in
        subst (λ (k : Link). Walks ls root k.list k.place) (sym up) (record {
          path = path;
          none = first-before (trees_from [] ls) (get_or ls l []) q t e none
              ∙ (ap (item_search (trees_from [] ls)) h ∙ ap (λ s. or_else s Nothing) n);
          inside = refers-within ls l q y r;
          within = omega arith;
        })
