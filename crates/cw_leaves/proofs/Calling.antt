-- Names are told apart by their entries.
use Rattle.cw_leaves.proofs.Terms.{◌≡◌, ℕ, zero, suc, true, false, nat_eq, eqb, slice_get, List, [], ◌∷◌, refl, sym}
use Rattle.cw_leaves.proofs.Terms.{◌∙◌, arith, AllByRecursion, Entry, is_entry, AreDistinct, Entered, called_by, called}
use Rattle.cw_leaves.proofs.Terms.{same_called}
use Rattle.std.proofs.lemmas.Map.Keys.{IsDistinct-head, IsDistinct-tail}
use Rattle.std.proofs.Math.Dec.{eqb-suc-suc, eqb-suc-zero, eqb-zero-suc}
use Rattle.std.proofs.lemmas.Cmp.{nat_list_eq_equiv}
use Rattle.std.specs.Cmp.Lexicographic.{pointwise}

text-self : (t : List ℕ) → pointwise nat_eq t t ≡ true
text-self t = nat_list_eq_equiv.refl t

text-flips : (t u : List ℕ) → pointwise nat_eq t u ≡ pointwise nat_eq u t
text-flips t u = nat_list_eq_equiv.symm t u

flips : (e d : Entry) → is_entry e.kind e.text d ≡ is_entry d.kind d.text e
flips e d = grind (arith, nat_eq, text-flips)

apart : (e : Entry) (es : List Entry) (b n : ℕ) → AllByRecursion (λ d. is_entry e.kind e.text d ≡ false) es
    → same_called (Entered e.kind e.text) (called_by n (slice_get es b)) ≡ false
apart e [] b n all = refl
apart e (d ∷ es) zero n all = all.0
apart e (d ∷ es) (suc b) n all = apart e es b n all.1

eqb-flips : (m n : ℕ) → eqb m n ≡ eqb n m
eqb-flips zero zero = refl
eqb-flips zero (suc n) = eqb-zero-suc n ∙ sym (eqb-suc-zero n)
eqb-flips (suc m) zero = eqb-suc-zero m ∙ sym (eqb-zero-suc m)
eqb-flips (suc m) (suc n) = eqb-suc-suc m n ∙ (eqb-flips m n ∙ sym (eqb-suc-suc n m))

pub called-apart : (names : List Entry) → AreDistinct names → (a b : ℕ)
    → same_called (called names a) (called names b) ≡ eqb a b
called-apart [] distinct a b = refl
called-apart (e ∷ es) distinct zero zero = grind (arith, nat_eq, text-self)
called-apart (e ∷ es) distinct zero (suc b) =
    apart e es b (suc b) (IsDistinct-head (λ d o. is_entry d.kind d.text o) e es distinct) ∙ sym (eqb-zero-suc b)
called-apart (e ∷ es) distinct (suc a) zero = (grind (arith, nat_eq, text-flips, eqb-flips))
    ∙ (apart e es a (suc a) (IsDistinct-head (λ d o. is_entry d.kind d.text o) e es distinct) ∙ sym (eqb-suc-zero a))
called-apart (e ∷ es) distinct (suc a) (suc b) = (grind (arith, eqb-suc-suc))
    ∙ (called-apart es (IsDistinct-tail (λ d o. is_entry d.kind d.text o) e es distinct) a b ∙ sym (eqb-suc-suc a b))
