-- The pair at a place.
use Rattle.std.proofs.Common.{◌≡◌, ◌≢◌, ℕ, zero, suc, ◌<◌, ◌≤◌, Bool, true, false, List, [], ◌∷◌, ◌++◌, Some, None, map}
use Rattle.std.proofs.Common.{length, nat_lt, refl, ap, get_or, arith, All, length-append}
use Rattle.std.proofs.{Math.ListN.get_or-append, Math.Seq.get_or-append_seam, Math.Dec.ltb, lemmas.Grind.common_steps}
use Rattle.std.specs.List.Sorted.{IsPartitionPoint, IsPartitionedBy}
use Rattle.std.proofs.lemmas.Bool.Decides.{nat_tests}
use Rattle.cw_base.proofs.NumberLaws.{apart}
use borrow.Author.Tests.{eq-eqb, ltb-true}
use Rattle.cw_secnames.specs.{Uses.name_at, model.InsideUses.use_of, model.InsideUses.AreAscending}
use Rattle.cw_secnames.specs.{declared.name_uses.Pair.Pair}

pub at-first : (place : ℕ) (pairs : List Pair) (i : ℕ) (d : Pair) → i < length pairs
    → ((k : ℕ) → k < i → (get_or pairs k d).place < place) → (get_or pairs i d).place ≡ place
    → name_at place (map use_of pairs) ≡ Some (get_or pairs i d).name
at-first place [] i d h below e = absurd (omega arith)
at-first place (p ∷ pairs) zero d h below e = rw (eq-eqb p.place place e, name_at) refl
at-first place (p ∷ pairs) (suc i) d h below e =
    let first : p.place < place = below zero (omega arith) in
    let other : (p.place ≢ place) = λ same. omega arith in
    rw (apart p.place place other, name_at) (at-first place pairs i d (omega arith) (λ k l. below (suc k) (omega arith))
    e)

pub nowhere : (place : ℕ) (pairs : List Pair) (d : Pair)
    → ((k : ℕ) → k < length pairs → (get_or pairs k d).place ≢ place) → name_at place (map use_of pairs) ≡ None
nowhere place [] d none = refl
nowhere place (p ∷ pairs) d none = rw (apart p.place place (none zero (omega arith)), name_at)
    (nowhere place pairs d (λ k l. none (suc k) (omega arith)))

-- One pair more, behind all others.
use_at : (pairs : List Pair) (i : ℕ) (d : Pair) → use_of (get_or pairs i d) ≡ get_or (map use_of pairs) i (use_of d)
use_at (p ∷ pairs) (suc i) d = use_at pairs i d
use_at _ _ _ = refl

length-uses : (pairs : List Pair) → length (map use_of pairs) ≡ length pairs
length-uses [] = refl
length-uses (p ∷ pairs) = ap suc (length-uses pairs)

more-by : (b : Bool) (pairs : List Pair) (p : Pair) (i j : ℕ) (d : Pair) → nat_lt j (length pairs) ≡ b
    → AreAscending pairs → All (λ u. u.place < p.place) (map use_of pairs) → i < j → j < length (pairs ++ p ∷ [])
    → (get_or (pairs ++ p ∷ []) i d).place < (get_or (pairs ++ p ∷ []) j d).place
more-by b pairs p i j d t a below h within =
    grind (arith, nat_tests, common_steps, get_or-append, length-append, length-uses, get_or-append_seam, use_at)

pub ascending-more : (pairs : List Pair) (p : Pair) → AreAscending pairs
    → All (λ u. u.place < p.place) (map use_of pairs) → AreAscending (pairs ++ p ∷ [])
ascending-more pairs p a below i j d h within = more-by (nat_lt j (length pairs)) pairs p i j d refl a below h within

weak-by : (b : Bool) (pairs : List Pair) (i j : ℕ) (d : Pair) → nat_lt i j ≡ b → AreAscending pairs → i ≤ j
    → j < length pairs → (get_or pairs i d).place ≤ (get_or pairs j d).place
weak-by b pairs i j d t a h within = grind arith

-- The pairs of one place and more are those behind a point.
unfoldable pub IsPoint : (place : ℕ) (pairs : List Pair) (first : ℕ) → Type 0
IsPoint place pairs first = IsPartitionPoint (λ (p : Pair). ltb p.place place ≡ true) (λ (p : Pair). ltb p.place place
    ≡ false) pairs first

pub parted : (place : ℕ) (pairs : List Pair) → AreAscending pairs
    → IsPartitionedBy (λ (p : Pair). ltb p.place place) pairs
parted place pairs a = grind (arith, weak-by)

pub point-below : (place : ℕ) (pairs : List Pair) (first : ℕ) (d : Pair) → IsPoint place pairs first
    → (k : ℕ) → k < first → (get_or pairs k d).place < place
unfolding IsPoint
point-below place pairs first d point k h = ltb-true _ _ (point.0 k d (omega arith) h)

none-by : (before behind : Bool) (place : ℕ) (pairs : List Pair) (first k : ℕ) (d : Pair) → nat_lt k first ≡ before
    → nat_lt first k ≡ behind → AreAscending pairs → IsPoint place pairs first → (first < length pairs
    → (get_or pairs first d).place ≢ place) → k < length pairs → (get_or pairs k d).place ≢ place
unfolding IsPoint
none-by before behind place pairs first k d t u a point other within same = grind arith

pub nowhere-by : (place : ℕ) (pairs : List Pair) (first : ℕ) (d : Pair) → AreAscending pairs → IsPoint place pairs first
    → (first < length pairs → (get_or pairs first d).place ≢ place) → name_at place (map use_of pairs) ≡ None
nowhere-by place pairs first d a point other = nowhere place pairs d
    (λ k within. none-by (nat_lt k first) (nat_lt first k) place pairs first k d refl refl a point other within)
