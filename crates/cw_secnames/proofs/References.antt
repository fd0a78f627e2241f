-- A number more in an ascending list.
use Rattle.std.proofs.Common.{◌≡◌, ℕ, zero, suc, ◌<◌, ◌≤◌, ◌==◌, ◌||◌, ◌+◌, Bool, true, false, List, [], ◌∷◌, ◌++◌}
use Rattle.std.proofs.Common.{length, refl, ap, sym, ◌∙◌, get_or, map, insert, slice_set, arith, Result, Ok, Err}
use Rattle.std.proofs.Common.{MatchResult}
use Rattle.std.specs.{List.Sorted.IsBinarySearchResult, Ordering.nat_cmp}
use Rattle.std.proofs.{lemmas.List.Sorted.searched, lemmas.Bool.eq-eqb, lemmas.Bool.eqb-true}
use Rattle.cw_base.proofs.TestLaws.{or-false}
use Rattle.cw_secnames.specs.declared.{kinds.RefKind.RefKind, sec_names.KeptName.KeptName}
use Rattle.cw_secnames.specs.{model.Inside.listed, model.Inside.lists_of, model.Inside.name_of, Kept.SecName}
use Rattle.cw_secnames.specs.{Marks.is_one_of}
use Rattle.cw_secnames.specs.References.{Ascend, AscendFrom, ReferAscending, RefersAscending, with_number}
use Rattle.cw_secnames.specs.References.{with_reference, with_section}
use Rattle.cw_secnames.specs.laws.OnceLaws.{with_number-ascends, with_number-is}

or-comm : (a b : Bool) → (a || b) ≡ (b || a)
or-comm a b = grind arith

or-assoc : (a b c : Bool) → ((a || b) || c) ≡ (a || (b || c))
or-assoc a b c = grind arith

-- ## One or two numbers

pub with_first : (n : ℕ) → with_number n [] ≡ n ∷ []
with_first n = with_number-is n [] (n ∷ []) (omega arith, tt) (λ k. sym (or-false (n == k)))

pub with_up : (a b : ℕ) → a < b → with_number b (a ∷ []) ≡ a ∷ b ∷ []
with_up a b less = with_number-is b (a ∷ []) (a ∷ b ∷ []) (omega arith, (omega arith, tt))
    (λ k. or-assoc (a == k) false (b == k) ∙ ap (λ t. (a == k) || t) (sym (or-false (b == k))))

pub with_down : (a b : ℕ) → b < a → with_number b (a ∷ []) ≡ b ∷ a ∷ []
with_down a b less = with_number-is b (a ∷ []) (b ∷ a ∷ []) (omega arith, (omega arith, tt))
    (λ k. or-comm ((a == k) || false) (b == k))

pub with_same : (a b : ℕ) → b ≤ a → a ≤ b → with_number b (a ∷ []) ≡ a ∷ []
with_same a b low high = let same : b ≡ a = omega arith in
    with_number-is b (a ∷ []) (a ∷ []) (omega arith, tt)
    (λ k. ap (λ (n : ℕ). ((a == k) || false) || (n == k)) same ∙ by (a == k))
  where
    by : (t : Bool) → ((t || false) || t) ≡ (t || false)
    by true = refl
    by false = refl

pub ruleset few = (with_first, with_up, with_down, with_same)

-- ## Any number of them

ascend-at : (least k : ℕ) (ns : List ℕ) → AscendFrom least ns → k < length ns → least ≤ get_or ns k 0
ascend-at least k [] up low = absurd (omega arith)
ascend-at least zero (n ∷ ns) up low = up.0
ascend-at least (suc k) (n ∷ ns) up low = grind (arith, ascend-at (n + 1) k ns up.1 (omega arith))

-- what a binary search asks
pub rises : (least : ℕ) (ns : List ℕ) → AscendFrom least ns → (i j : ℕ) → i ≤ j → j < length ns
    → get_or ns i 0 ≤ get_or ns j 0
rises least [] up i j h low = absurd (omega arith)
rises least (n ∷ ns) up zero zero h low = omega arith
rises least (n ∷ ns) up zero (suc j) h low = grind (arith, ascend-at)
rises least (n ∷ ns) up (suc i) zero h low = absurd (omega arith)
rises least (n ∷ ns) up (suc i) (suc j) h low = rises (n + 1) ns up.1 i j (omega arith) (omega arith)

found-in : (i n : ℕ) (ns : List ℕ) → i < length ns → get_or ns i 0 ≡ n → is_one_of n ns ≡ true
found-in i n [] low is = absurd (omega arith)
found-in zero n (x ∷ ns) low is = ap (λ b. b || is_one_of n ns) (eq-eqb x n is)
found-in (suc i) n (x ∷ ns) low is = ap (λ b. (x == n) || b) (found-in i n ns (omega arith) is) ∙ or-comm (x == n) true

pub with_there : (i n : ℕ) (ns : List ℕ) → Ascend ns → i < length ns → get_or ns i 0 ≡ n → with_number n ns ≡ ns
with_there i n ns up low is = grind (arith, with_number-is, or-comm, eqb-true, found-in, or-false)

ascend-inserted : (least i n : ℕ) (ns : List ℕ) → AscendFrom least ns → i ≤ length ns → least ≤ n → ((k : ℕ) → k < i
    → get_or ns k 0 < n) → ((k : ℕ) → i ≤ k → k < length ns → n < get_or ns k 0) → AscendFrom least (insert ns i n)
ascend-inserted least zero n [] up within low before behind = (low, tt)
ascend-inserted least (suc i) n [] up within low before behind = absurd (omega arith)
ascend-inserted least zero n (x ∷ ns) up within low before behind =
    let less : n < x = behind 0 (omega arith) (omega arith) in (low, (omega arith, up.1))
ascend-inserted least (suc i) n (x ∷ ns) up within low before behind =
    let less : x < n = before 0 (omega arith) in (
      up.0,
      ascend-inserted (x + 1) i n ns up.1 (omega arith) (omega arith)
          (λ k h. before (suc k) (omega arith)) (λ k h low. behind (suc k) (omega arith) (omega arith)),
    )

in-inserted : (i n k : ℕ) (ns : List ℕ) → (is_one_of k ns || (n == k)) ≡ is_one_of k (insert ns i n)
in-inserted zero n k (x ∷ ns) = or-comm (is_one_of k (x ∷ ns)) (n == k)
in-inserted (suc i) n k (x ∷ ns) = grind (arith, in-inserted i n k ns, or-assoc)
in-inserted _ n k _ = sym (or-false (n == k))

pub with_inserted : (i n : ℕ) (ns : List ℕ) → Ascend ns → i ≤ length ns → ((k : ℕ) → k < i → get_or ns k 0 < n)
    → ((k : ℕ) → i ≤ k → k < length ns → n < get_or ns k 0) → insert ns i n ≡ with_number n ns
with_inserted i n ns up within before behind = sym (with_number-is n ns (insert ns i n)
    (ascend-inserted 0 i n ns up within (omega arith) before behind) (λ k. in-inserted i n k ns))

-- what a binary search answers
pub searched_number : (n : ℕ) (ns : List ℕ) (r : Result ℕ ℕ) → Ascend ns → IsBinarySearchResult (λ other. nat_cmp other
    n) ns r → MatchResult r (λ i. ns ≡ with_number n ns) (λ i. insert ns i n ≡ with_number n ns)
searched_number n ns r up is = by r (searched ns n r is (rises 0 ns up))
  where
    by : (r : Result ℕ ℕ) → MatchResult r (λ i. (i < length ns) × (get_or ns i 0 ≡ n)) (λ i. (i ≤ length ns)
        × ((k : ℕ) → k < i → get_or ns k 0 < n) × ((k : ℕ) → i ≤ k → k < length ns → n < get_or ns k 0)) → MatchResult r
        (λ i. ns ≡ with_number n ns) (λ i. insert ns i n ≡ with_number n ns)
    by (Ok i) h = sym (with_there i n ns up h.0 h.1)
    by (Err i) h = with_inserted i n ns up h.0 h.1 h.2

-- ## Names

section-ascends : (how : RefKind) (section : ℕ) (n : SecName) → RefersAscending n
    → RefersAscending (with_section how section n)
section-ascends how section n up = grind (arith, with_number-ascends)

pub ascending-with_reference : (i : ℕ) (how : RefKind) (section : ℕ) (names : List SecName) → ReferAscending names
    → ReferAscending (with_reference i how section names)
ascending-with_reference i how section [] up = tt
ascending-with_reference zero how section (n ∷ names) up = (section-ascends how section n up.0, up.1)
ascending-with_reference (suc i) how section (n ∷ names) up = (up.0, ascending-with_reference i how section names up.1)

pub ascending-behind : (xs : List KeptName) (x : KeptName) → ReferAscending (map name_of xs)
    → RefersAscending (name_of x)
    → ReferAscending (map name_of (xs ++ x ∷ []))
ascending-behind [] x up one = (one, tt)
ascending-behind (first ∷ xs) x up one = (up.0, ascending-behind xs x up.1 one)

pub ascending-set : (xs : List KeptName) (i : ℕ) (new : KeptName) → ReferAscending (map name_of xs)
    → RefersAscending (name_of new) → ReferAscending (map name_of (slice_set xs i new))
ascending-set [] i new up one = tt
ascending-set (x ∷ xs) zero new up one = (one, up.1)
ascending-set (x ∷ xs) (suc i) new up one = (up.0, ascending-set xs i new up.1 one)

pub ascending-at : (xs : List KeptName) (i : ℕ) (d : KeptName) → ReferAscending (map name_of xs) → i < length xs
    → RefersAscending (name_of (get_or xs i d))
ascending-at [] i d up low = absurd (omega arith)
ascending-at (x ∷ xs) zero d up low = up.0
ascending-at (x ∷ xs) (suc i) d up low = ascending-at xs i d up.1 (omega arith)

-- in one way
pub ascending-in : (how : RefKind) (x : KeptName) → RefersAscending (name_of x) → Ascend (listed how
    (lists_of x.referrers))
ascending-in how x up = grind arith
