-- Steps that change no reference.
use Rattle.cw_scraps.proofs.Terms.{◌≡◌, ℕ, ◌<◌, List, [], ◌∷◌, length, get_or, None, sym, ap, ◌∙◌, subst, arith, Token}
use Rattle.cw_scraps.proofs.Terms.{unfolded, refers, IsTied, Reach, here, next, Reserves, StoredLists, all_lists}
use Rattle.cw_scraps.proofs.Terms.{with_built, unfolded-same, reach-le, reach-trans, LineEntry, seen, AreRoots}
use Rattle.cw_scraps.proofs.Terms.{IsOutside, Changes}
use Rattle.cw_tokens.proofs.Reaching.{comparable, unreferred-reach}

pub reach-same : (old new : List (List Token)) → ((l p : ℕ) → refers new l p ≡ refers old l p) → (a b : ℕ)
    → Reach old a b → Reach new a b
reach-same old new same a b here = here
reach-same old new same a b (next l p n e r) = next l p b (same l p ∙ e) (reach-same old new same a l r)

pub reach-back : (old new : List (List Token)) → ((l p : ℕ) → refers new l p ≡ refers old l p) → (a b : ℕ)
    → Reach new a b → Reach old a b
reach-back old new same a b r = reach-same new old (λ l p. sym (same l p)) a b r

pub tied-same : (old new : List (List Token)) → ((l p : ℕ) → refers new l p ≡ refers old l p) → IsTied old → IsTied new
tied-same old new same t = grind arith

pub roots-stay : (old new : List (List Token)) (rs ts : List ℕ) → Changes old new ts → AreRoots old rs → AreRoots new rs
roots-stay old new rs ts ch r = grind arith

pub outside-stay : (old new : List (List Token)) (rs ts : List ℕ) (k : ℕ) → Changes old new ts → IsOutside old rs k
    → IsOutside new rs k
outside-stay old new rs ts k ch o = grind (arith, reach-back)

pub outside-reach : (ls : List (List Token)) (rs : List ℕ) (k j : ℕ) → IsTied ls → IsOutside ls rs k → Reach ls k j
    → IsOutside ls rs j
outside-reach ls rs k j tied o r = grind (arith, reach-le, reach-trans, comparable)

-- a tree outside stays
pub trees-outside : (old new : List (List Token)) (rs : List ℕ) (k : ℕ) → IsTied old → Changes old new rs
    → IsOutside old rs k → unfolded new k ≡ unfolded old k
trees-outside old new rs k tied ch o = sym (unfolded-same old new k tied (tied-same old new ch.same_refs tied)
    (sym ch.same_length) (λ j r. sym (ch.others j (outside-reach old rs k j tied o r))))

pub changes-trans : (a b d : List (List Token)) (rs : List ℕ) → Changes a b rs → Changes b d rs → Changes a d rs
changes-trans a b d rs x y = record {
  others = λ k o. y.others k (outside-stay a b rs rs k x o) ∙ x.others k o;
  same_length = y.same_length ∙ x.same_length;
  same_refs = λ l p. y.same_refs l p ∙ x.same_refs l p;
  same_count = y.same_count ∙ x.same_count;
}

pub changes-more : (old new : List (List Token)) (rs : List ℕ) (i : ℕ) → i < length rs
    → Changes old new (get_or rs i 0 ∷ []) → Changes old new rs
changes-more old new rs i h ch = grind arith

-- one root stands in the tree of no other
pub root-outside : (ls : List (List Token)) (rs : List ℕ) (i m : ℕ) → IsTied ls → AreRoots ls rs → i < length rs
    → m < length rs → (m ≡ i → ⊥) → IsOutside ls (get_or rs i 0 ∷ []) (get_or rs m 0)
root-outside ls rs i m tied roots hi hm apart = grind (arith, unreferred-reach)

pub reserves-changes : (old new : List (List Token)) (root : ℕ) → Reserves old new root → Changes old new (root ∷ [])
reserves-changes old new root r = grind arith

-- what is seen of an entry
pub seen-same : (old new : List (List Token)) (e : LineEntry) → unfolded new e.list.index ≡ unfolded old e.list.index
    → seen new e ≡ seen old e
seen-same old new e h = ap (λ t. record { cat = e.cat; tree = t; left = e.left; right = e.right }) h

pub tied-idle : (s : StoredLists) → s.building ≡ None → IsTied (all_lists s) → IsTied s.lists
tied-idle s idle tied = subst (λ o. IsTied (with_built s.lists o)) idle tied
