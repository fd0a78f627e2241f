-- The trees of a store.
use Rattle.cw_tokens.proofs.Terms.{◌≡◌, ℕ, zero, suc, ◌+◌, ◌<◌, ◌≤◌, List, [], ◌∷◌, ◌++◌, length, Some, inl, inr}
use Rattle.cw_tokens.proofs.Terms.{get_or, refl, sym, ap, ◌∙◌, arith, slice_get, get_or_append_left, get_or_at}
use Rattle.cw_tokens.proofs.Terms.{get_or_past, length_push, cases_lt, Tree, Empty, Token, Shape, shape, ref_of}
use Rattle.cw_tokens.proofs.Terms.{item_of, tree_in, trees_from, unfolded, token_ref, refers, IsTied, Reach, here, next}

pub length-trees : (done : List Tree) (ls : List (List Token)) → length (trees_from done ls) ≡ length done + length ls
length-trees done [] = omega arith
length-trees done (ts ∷ ls) = grind (arith, length-trees (done ++ tree_in done ts ∷ []) ls, length_push)

pub trees-front : (done : List Tree) (ls : List (List Token)) (i : ℕ) → i < length done
    → get_or (trees_from done ls) i Empty ≡ get_or done i Empty
trees-front done [] i h = refl
trees-front done (ts ∷ ls) i h = trees-front (done ++ tree_in done ts ∷ []) ls i
    (omega (arith, length_push done (tree_in done ts))) ∙ get_or_append_left done (tree_in done ts ∷ []) Empty i h

-- an item, and a tree, depend only on the trees to which they refer
pub item_of-same : (old new : List Tree) (s : Shape) (a b : Tree) → ((x : ℕ) → ref_of s ≡ Some x → get_or old x Empty
    ≡ get_or new x Empty) → a ≡ b → item_of old s a ≡ item_of new s b
item_of-same old new s a b h e = grind arith

pub tree_in-same : (old new : List Tree) (ts : List Token) → ((q x : ℕ) → token_ref (slice_get ts q) ≡ Some x
    → get_or old x Empty ≡ get_or new x Empty) → tree_in old ts ≡ tree_in new ts
tree_in-same old new [] h = refl
tree_in-same old new (t ∷ ts) h = item_of-same old new (shape t) (tree_in old ts) (tree_in new ts) (h 0)
    (tree_in-same old new ts (λ q x k. h (suc q) x k))

-- the tree of a list is that of its tokens over the trees of all lists
unfold-at : (done : List Tree) (ls : List (List Token)) (i : ℕ)
    → ((l p x : ℕ) → refers ls l p ≡ Some x → x < length done + l) → i < length ls
    → get_or (trees_from done ls) (length done + i) Empty ≡ tree_in (trees_from done ls) (get_or ls i [])
unfold-at done [] i h lt = absurd (omega arith)
unfold-at done (ts ∷ ls) zero h lt =
    ap (λ n. get_or (trees_from (done ++ tree_in done ts ∷ []) ls) n Empty) (omega arith)
    ∙ (trees-front (done ++ tree_in done ts ∷ []) ls (length done) (omega (arith, length_push done (tree_in done ts)))
    ∙ (get_or_at done (tree_in done ts) [] Empty (length done) refl ∙ tree_in-same done (trees_from (done ++ tree_in
    done ts ∷ []) ls) ts (λ q x k. let low : x < length done + 0 = h 0 q x k in let a : x < length done = omega arith in
    let b : x < length (done ++ tree_in done ts ∷ []) = omega (arith, length_push done (tree_in done ts)) in sym
    (trees-front (done ++ tree_in done ts ∷ []) ls x b ∙ get_or_append_left done (tree_in done ts ∷ []) Empty x a))))
unfold-at done (ts ∷ ls) (suc i) h lt = ap (λ n. get_or (trees_from (done ++ tree_in done ts ∷ []) ls) n Empty)
    (omega (arith, length_push done (tree_in done ts))) ∙ unfold-at (done ++ tree_in done ts ∷ []) ls i (λ l p x k. let
    low : x < length done + suc l = h (suc l) p x k in omega (arith, length_push done (tree_in done ts))) (omega arith)

pub unfold-is : (ls : List (List Token)) (i : ℕ) → IsTied ls → i < length ls → unfolded ls i
    ≡ tree_in (trees_from [] ls) (get_or ls i [])
unfold-is ls i tied lt = ap (λ n. get_or (trees_from [] ls) n Empty) (sym (omega arith))
    ∙ unfold-at [] ls i (λ l p x k. let low : x < l = tied.earlier l p x k in omega arith) lt

pub unfold-past : (ls : List (List Token)) (i : ℕ) → length ls ≤ i → unfolded ls i ≡ Empty
unfold-past ls i h = get_or_past (trees_from [] ls) i Empty (omega (arith, length-trees [] ls))

-- one list more changes no tree
pub trees-more : (done : List Tree) (ls : List (List Token)) (ts : List Token) → trees_from done (ls ++ ts ∷ [])
    ≡ trees_from done ls ++ tree_in (trees_from done ls) ts ∷ []
trees-more done [] ts = refl
trees-more done (us ∷ ls) ts = trees-more (done ++ tree_in done us ∷ []) ls ts

pub unfolded-old : (ls : List (List Token)) (ts : List Token) (i : ℕ) → i < length ls → unfolded (ls ++ ts ∷ []) i
    ≡ unfolded ls i
unfolded-old ls ts i h = grind (arith, trees-more, get_or_append_left, length-trees)

pub unfolded-new : (ls : List (List Token)) (ts : List Token) → unfolded (ls ++ ts ∷ []) (length ls)
    ≡ tree_in (trees_from [] ls) ts
unfolded-new ls ts = grind (arith, trees-more, get_or_at, length-trees)

-- Reaching
pub reach-trans : (ls : List (List Token)) (a b d : ℕ) → Reach ls a b → Reach ls b d → Reach ls a d
reach-trans ls a b d r here = r
reach-trans ls a b d r (next l p n e s) = next l p n e (reach-trans ls a b l r s)

pub reach-le : (ls : List (List Token)) (a b : ℕ) → IsTied ls → Reach ls a b → b ≤ a
reach-le ls a b tied here = omega arith
reach-le ls a b tied (next l p n e s) = grind (arith, reach-le ls a l tied s)

-- a tree depends only on the lists that its root reaches
same-below : (old new : List (List Token)) (n k : ℕ) → k < n → IsTied old → IsTied new → length old ≡ length new
    → ((j : ℕ) → Reach old k j → get_or old j [] ≡ get_or new j []) → unfolded old k ≡ unfolded new k
same-below old new zero k lt to tn len same = absurd (omega arith)
same-below old new (suc n) k lt to tn len same = elim (cases_lt k (length old)) [
  | inl h ↦ let m : k < length new =
      omega arith in unfold-is old k to h ∙ (tree_in-same (trees_from [] old) (trees_from [] new) (get_or old k [])
      (λ q x e. let low : x < k = to.earlier k q x e in same-below old new n x (omega arith) to tn len (λ j r. same j
      (reach-trans old k x j (next k q x e here) r))) ∙ (ap (tree_in (trees_from [] new)) (same k here) ∙ sym (unfold-is
      new k tn m)))
  | inr h ↦ let m : length new ≤ k = omega arith in unfold-past old k h ∙ sym (unfold-past new k m)
]

pub unfolded-same : (old new : List (List Token)) (k : ℕ) → IsTied old → IsTied new → length old ≡ length new
    → ((j : ℕ) → Reach old k j → get_or old j [] ≡ get_or new j []) → unfolded old k ≡ unfolded new k
unfolded-same old new k to tn len same = same-below old new (suc k) k (omega arith) to tn len same
