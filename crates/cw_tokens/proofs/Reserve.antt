-- One token is written, and the tree of the root is the one whose first identifier is reserved.
use Rattle.cw_tokens.proofs.Terms.{◌≡◌, ℕ, zero, suc, ◌<◌, ◌≤◌, List, [], ◌∷◌, length, Some, None, inl, inr, take, set}
use Rattle.cw_tokens.proofs.Terms.{get_or, refl, sym, ap, ◌∙◌, subst, arith, slice_get, get_or-set_same}
use Rattle.cw_tokens.proofs.Terms.{get_or-set_other, length-set, cases_eq, RawInt, Tree, Empty, Then, Sub, Inner}
use Rattle.cw_tokens.proofs.Terms.{Search, Found, Nothing, or_else, search_leaf, first_ident, reserve_first, Token}
use Rattle.cw_tokens.proofs.Terms.{Ident, Reserved, Spot, Shape, Below, shape, ref_of, item_of, tree_in, trees_from}
use Rattle.cw_tokens.proofs.Terms.{unfolded, token_ref, refers, IsTied, Reach, here, next, before, Path, top, down}
use Rattle.cw_tokens.proofs.Terms.{Finds, found_name, Reserves, ReservesToken}
use Rattle.std.proofs.lemmas.List.Sums.{sum_by-set}
use Rattle.cw_trees.specs.Tree.{Leaf}
use Rattle.cw_tokens.specs.Counting.{token_count}
use Rattle.cw_tokens.proofs.{Linking.refers-within, Measuring.reach-of, Reaching.comparable, Reaching.siblings}
use Rattle.cw_tokens.proofs.Unfolding.{item_of-same, tree_in-same, unfold-is, unfolded-same, reach-le, reach-trans}
use Rattle.cw_tokens.proofs.Searching.{item_search, first-item, first-at, path-in, below-first}

-- where nothing is found nothing changes
some-none : (n : ℕ) (s : Search) → s ≡ Found n → found_name s ≡ None → ⊥
some-none n s e h = absurd (let k : found_name (Found n) ≡ None = sym (ap found_name e) ∙ h in cc)

reserve-then : (s : Search) (leaf : Leaf) (rest : Tree) → search_leaf leaf ≡ s
    → found_name (or_else s (first_ident rest)) ≡ None → (found_name (first_ident rest) ≡ None → reserve_first rest
    ≡ rest) → reserve_first (Then leaf rest) ≡ Then leaf rest
reserve-then s leaf rest e h rec = grind (arith, some-none)

reserve-sub : (s : Search) (tree rest : Tree) → first_ident tree ≡ s → found_name (or_else s (first_ident rest)) ≡ None
    → (found_name (first_ident rest) ≡ None → reserve_first rest ≡ rest) → reserve_first (Sub tree rest) ≡ Sub tree rest
reserve-sub s tree rest e h rec = grind (arith, some-none)

pub reserve-none : (t : Tree) → found_name (first_ident t) ≡ None → reserve_first t ≡ t
reserve-none Empty h = refl
reserve-none (Then leaf rest) h = reserve-then (search_leaf leaf) leaf rest refl h (λ k. reserve-none rest k)
reserve-none (Sub tree rest) h = reserve-sub (first_ident tree) tree rest refl h (λ k. reserve-none rest k)
reserve-none (Inner tree rest) h = ap (Inner tree) (reserve-none rest h)

-- an item in which nothing is found is passed over
or_else-none : (s t : Search) → or_else s t ≡ Nothing → (s ≡ Nothing) × (t ≡ Nothing)
or_else-none s t h = grind arith

skip-item : (trees : List Tree) (s : Shape) (rest : Tree) → item_search trees s ≡ Nothing
    → item_of trees s (reserve_first rest) ≡ reserve_first (item_of trees s rest)
skip-item trees s rest h = grind (arith, or_else-none)

-- a list whose token p is changed to one whose item is the reserved one
reserve-at : (old new : List Tree) (ts : List Token) (p : ℕ) (t u : Token) → slice_get ts p ≡ Some t
    → first_ident (tree_in old (take p ts)) ≡ Nothing
    → ((q x : ℕ) → (q ≡ p → ⊥) → token_ref (slice_get ts q) ≡ Some x → get_or old x Empty ≡ get_or new x Empty)
    → ((rest : Tree) → item_of new (shape u) rest ≡ reserve_first (item_of old (shape t) rest))
    → tree_in new (set ts p u) ≡ reserve_first (tree_in old ts)
reserve-at old new [] p t u e n same h = cc
reserve-at old new (v ∷ ts) zero t u e n same h =
    let first : v ≡ t = some-is v t e in
    ap (item_of new (shape u)) (sym (tree_in-same old new ts (λ q x k. same (suc q) x (λ d. cc) k)))
    ∙ (h (tree_in old ts) ∙ ap (λ w. reserve_first (item_of old (shape w) (tree_in old ts))) (sym first))
  where
    some-is : (a b : Token) → Some a ≡ Some b → a ≡ b
    some-is a b k = cc
reserve-at old new (v ∷ ts) (suc p) t u e n same h =
    let both : (item_search old (shape v) ≡ Nothing) × (first_ident (tree_in old (take p ts)) ≡ Nothing) =
    or_else-none _ _ (sym (first-item old (shape v) (tree_in old (take p ts))) ∙ n) in
    item_of-same new old (shape v) (tree_in new (set ts p u)) (reserve_first (tree_in old ts)) (λ x k. sym (same 0 x
    (λ d. cc) k)) (reserve-at old new ts p t u e both.1 (λ q x ne k. same (suc q) x (λ d. ne (pred-is q p d)) k) h)
    ∙ skip-item old (shape v) (tree_in old ts) both.0
  where
    pred-is : (a b : ℕ) → suc a ≡ suc b → a ≡ b
    pred-is a b k = cc

-- One token of one list is written, which refers to nothing before and after.
module _ (old : List (List Token)) (l p : ℕ) (t u : Token) (tied : IsTied old) (inside : l < length old)
    (at : slice_get (get_or old l []) p ≡ Some t)
    (was : ref_of (shape t) ≡ None) (is : ref_of (shape u) ≡ None) where
  abbrev new : List (List Token)
  new = set old l (set (get_or old l []) p u)

  pub other-list : (k : ℕ) → (k ≡ l → ⊥) → get_or new k [] ≡ get_or old k []
  other-list k h = get_or-set_other old l k (set (get_or old l []) p u) [] h

  pub this-list : get_or new l [] ≡ set (get_or old l []) p u
  this-list = get_or-set_same old l (set (get_or old l []) p u) [] inside

  ref-written : (ts : List Token) (i q : ℕ) → slice_get ts i ≡ Some t → token_ref (slice_get (set ts i u) q)
      ≡ token_ref (slice_get ts q)
  ref-written (v ∷ ts) zero zero e = grind arith
  ref-written (v ∷ ts) (suc i) (suc q) e = ref-written ts i q e
  ref-written _ _ _ _ = refl

  pub written-refs : (k q : ℕ) → refers new k q ≡ refers old k q
  written-refs k q = grind (arith, cases_eq, this-list, ref-written, other-list)

  pub written-tied : IsTied new
  written-tied = grind (arith, written-refs)

  pub written-length : length new ≡ length old
  written-length = length-set old l (set (get_or old l []) p u)

  -- a tree in which the list does not stand is as it was
  pub unaffected : (k : ℕ) → (Reach old k l → ⊥) → unfolded old k ≡ unfolded new k
  unaffected k h = grind (arith, unfolded-same, written-tied, written-length, other-list)

  -- the list itself
  this-tree : first_ident (before old l p) ≡ Nothing → ((rest : Tree) → item_of (trees_from [] new) (shape u) rest
      ≡ reserve_first (item_of (trees_from [] old) (shape t) rest)) → unfolded new l ≡ reserve_first (unfolded old l)
  this-tree none item =
      grind (arith, written-length, unfold-is, written-tied, this-list, reserve-at, unaffected, reach-le)

  -- a list on the way down to it
  upper-tree : (m q x : ℕ) (v : Token) → slice_get (get_or old m []) q ≡ Some v → shape v ≡ Below x
      → first_ident (before old m q) ≡ Nothing → (n : ℕ) → first_ident (unfolded old x) ≡ Found n → Reach old x l
      → unfolded new x ≡ reserve_first (unfolded old x) → unfolded new m ≡ reserve_first (unfolded old m)
  upper-tree m q x v e h none n f r done =
      let ref : refers old m q ≡ Some x = ap token_ref e ∙ ap ref_of h in
      let low : x < m = tied.earlier m q x ref in
      let within : m < length old = refers-within old m q x ref in
      let high : l ≤ x = reach-le old x l tied r in
      let apart : m ≡ l → ⊥ = λ d. omega arith in
      let lt : m < length new = let k : length new ≡ length old = written-length in omega arith in
      unfold-is new m written-tied lt ∙ (ap (tree_in (trees_from [] new)) (other-list m apart)
      ∙ (ap (tree_in (trees_from [] new)) (sym (set-same (get_or old m []) q v e)) ∙ (reserve-at (trees_from [] old)
      (trees_from [] new) (get_or old m []) q v v e none (λ i y ne k. unaffected y (λ s. ne (siblings old tied m i q y x
      l k ref s r))) (λ rest. sub rest) ∙ ap reserve_first (sym (unfold-is old m tied within)))))
    where
      set-same : (ts : List Token) (i : ℕ) (w : Token) → slice_get ts i ≡ Some w → set ts i w ≡ ts
      set-same [] i w k = refl
      set-same (y ∷ ts) zero w k = ap (λ z. z ∷ ts) (sym (some-is y w k))
        where
          some-is : (a b : Token) → Some a ≡ Some b → a ≡ b
          some-is a b g = cc
      set-same (y ∷ ts) (suc i) w k = ap (λ zs. y ∷ zs) (set-same ts i w k)

      sub : (rest : Tree) → item_of (trees_from [] new) (shape v) rest
          ≡ reserve_first (item_of (trees_from [] old) (shape v) rest)
      sub rest = ap (λ s. item_of (trees_from [] new) s rest) h ∙ (ap (λ s. Sub s rest) done
          ∙ (sym (found (unfolded old x) f) ∙ ap (λ s. reserve_first (item_of (trees_from [] old) s rest)) (sym h)))
        where
          found : (tree : Tree) → first_ident tree ≡ Found n → reserve_first (Sub tree rest)
              ≡ Sub (reserve_first tree) rest
          found tree g = rw (g, reserve_first) refl

  climb : (root m n : ℕ) → root < length old → Path old root m → first_ident (unfolded old m) ≡ Found n → Reach old m l
      → unfolded new m ≡ reserve_first (unfolded old m) → unfolded new root ≡ reserve_first (unfolded old root)
  climb root m n lt top f r done = done
  climb root m n lt (down k q x v e h none w) f r done =
      let ref : refers old k q ≡ Some m = ap token_ref e ∙ ap ref_of h in
      climb root k n lt w (below-first old root tied k q m v e h none (path-in old root tied k lt w) (Found n)
      not-nothing f) (reach-trans old k m l (next k q m ref here) r) (upper-tree k q m v e h none n f r done)
    where
      not-nothing : Found n ≡ Nothing → ⊥
      not-nothing g = cc

-- a token that is written over another leaves the number of tokens as it is
count-written : (lists : List (List Token)) (l p : ℕ) (t : Token) → l < length lists
    → token_count (set lists l (set (get_or lists l []) p t)) ≡ token_count lists
count-written lists l p t inside = grind (arith, length-set, sum_by-set)

-- the spot of the first identifier is written
module _ (old : List (List Token)) (root : ℕ) (spot : Spot) (tied : IsTied old) (lt : root < length old)
    (f : Finds old root spot) where
  abbrev pub written : List (List Token)
  written = set old spot.list (set (get_or old spot.list []) spot.place (Reserved spot.name spot.number RawInt))

  abbrev word : Token
  word = Reserved spot.name spot.number RawInt

  first-here : first_ident (unfolded old spot.list) ≡ Found spot.name.index
  first-here = ap first_ident (unfold-is old spot.list tied f.walks.inside) ∙ first-at (trees_from [] old)
      (get_or old spot.list []) spot.place (Ident spot.name spot.number) f.token f.walks.none

  pub finds-reserves : Reserves old written root
  finds-reserves = record {
    tree = climb old spot.list spot.place (Ident spot.name spot.number) word tied f.walks.inside f.token refl refl root
        spot.list spot.name.index lt f.walks.path first-here here (this-tree old spot.list spot.place
        (Ident spot.name spot.number) word tied f.walks.inside f.token refl refl f.walks.none (λ rest. refl));
    other_lists = λ k up down. other-list old spot.list spot.place (Ident spot.name spot.number) word tied
        f.walks.inside f.token refl refl k (λ e. down
        (subst (λ i. Reach old root i) (sym e) (reach-of old root spot.list f.walks.path)));
    other_trees = λ k up down. sym (unaffected old spot.list spot.place (Ident spot.name spot.number) word tied
        f.walks.inside f.token refl refl k (λ r. elim (comparable old tied k root spot.list r
        (reach-of old root spot.list f.walks.path)) [ inl w ↦ up w | inr w ↦ down w ]));
    same_length = written-length old spot.list spot.place (Ident spot.name spot.number) word tied f.walks.inside f.token
        refl refl;
    same_refs = written-refs old spot.list spot.place (Ident spot.name spot.number) word tied f.walks.inside f.token
        refl refl;
    same_count = count-written old spot.list spot.place word f.walks.inside;
  }

  pub finds-token : ReservesToken old written spot.name
  finds-token = record { list = spot.list; place = spot.place; number = spot.number; was = f.token; is = refl }

pub none-reserves : (old : List (List Token)) (root : ℕ) → found_name (first_ident (unfolded old root)) ≡ None
    → Reserves old old root
none-reserves old root h = grind (arith, reserve-none)
