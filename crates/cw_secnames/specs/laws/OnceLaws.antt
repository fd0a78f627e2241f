-- Laws of numbers in ascending order, each once: which are there, and that they are the only such list.
use Rattle.std.proofs.Common.{◌≡◌, ◌≢◌, ℕ, zero, suc, ◌+◌, max, ◌<◌, ◌≤◌, ◌==◌, ◌||◌, Bool, true, false, nat_lt, List}
use Rattle.std.proofs.Common.{[], ◌∷◌, ◌++◌, fold, cond, refl, sym, ap, subst, ◌∙◌, inl, inr, arith, true≢false}
use Rattle.std.specs.List.{filter, range_with_len}
use Rattle.std.proofs.lemmas.Bool.{ltb-false, ltb-true, eq-eqb}
use Rattle.std.proofs.lemmas.List.Folds.{list_any-append}
use Rattle.cw_base.proofs.TestLaws.{or-false, or-true}
use Rattle.cw_base.proofs.NumberLaws.{three, apart}
use Rattle.cw_secnames.specs.Marks.{is_one_of}
use Rattle.cw_secnames.specs.References.{Ascend, AscendFrom, above_numbers, once, with_number}

pub head-in : (n : ℕ) (ns : List ℕ) → is_one_of n (n ∷ ns) ≡ true
head-in n ns = ap (λ b. b || is_one_of n ns) (eq-eqb n n refl)

pub tail-in : (k n : ℕ) (ns : List ℕ) → is_one_of k ns ≡ true → is_one_of k (n ∷ ns) ≡ true
tail-in k n ns e = ap (λ b. (n == k) || b) e ∙ or-true (n == k)

pub ascend-more : (least more : ℕ) (ns : List ℕ) → least ≤ more → AscendFrom more ns → AscendFrom least ns
ascend-more least more [] h up = tt
ascend-more least more (n ∷ ns) h up = (omega (arith, up.0), up.1)

pub not-in : (k least : ℕ) (ns : List ℕ) → k < least → AscendFrom least ns → is_one_of k ns ≡ false
not-in k least [] less up = refl
not-in k least (n ∷ ns) less up =
    let low : least ≤ n = up.0 in
    ap (λ b. b || is_one_of k ns) (apart n k (λ same. omega (arith, same)))
    ∙ not-in k (n + 1) ns (omega arith) up.1

-- ## Numbers that pass a test, from one on, of so many

module _ (test : ℕ → Bool) where
  abbrev with_first : Bool → ℕ → List ℕ → List ℕ
  with_first t a rest = cond t (a ∷ rest) rest

  pub pick-ascends : (a n : ℕ) → AscendFrom a (filter test (range_with_len a n))
  pick-ascends a zero = tt
  pick-ascends a (suc n) = by (test a) (pick-ascends (a + 1) n)
    where
      by : (t : Bool) → AscendFrom (a + 1) (filter test (range_with_len (a + 1) n))
          → AscendFrom a (cond t (a ∷ filter test (range_with_len (a + 1) n)) (filter test (range_with_len (a + 1) n)))
      by true more = (omega arith, more)
      by false more = ascend-more a (a + 1) (filter test (range_with_len (a + 1) n)) (omega arith) more

  -- where none passes from a number on, so many more numbers are all the same
  pick-more : (a n m : ℕ) → n ≤ m → ((k : ℕ) → a + n ≤ k → test k ≡ false)
      → filter test (range_with_len a m) ≡ filter test (range_with_len a n)
  pick-more a zero zero h none = refl
  pick-more a zero (suc m) h none =
      ap (λ t. with_first t a (filter test (range_with_len (a + 1) m))) (none a (omega arith))
      ∙ pick-more (a + 1) zero m (omega arith) (λ k low. none k (omega arith))
  pick-more a (suc n) zero h none = absurd (omega arith)
  pick-more a (suc n) (suc m) h none =
      ap (with_first (test a) a) (pick-more (a + 1) n m (omega arith) (λ k low. none k (omega arith)))

  in-pick : (k a n : ℕ) → a ≤ k → k < a + n → is_one_of k (filter test (range_with_len a n)) ≡ test k
  in-pick k a zero low high = absurd (omega arith)
  in-pick k a (suc n) low high = elim (three a k) [
    | inl less ↦ by (test a) less (in-pick k (a + 1) n (omega arith) (omega arith))
    | inr other ↦ elim other [ inl same ↦ here same | inr less ↦ absurd (omega arith) ]
  ]
    where
      rest : List ℕ
      rest = filter test (range_with_len (a + 1) n)

      by : (t : Bool) → a < k → is_one_of k rest ≡ test k → is_one_of k (cond t (a ∷ rest) rest) ≡ test k
      by true less more = ap (λ b. b || is_one_of k rest) (apart a k (λ same. omega (arith, same))) ∙ more
      by false less more = more

      at : (t : Bool) → is_one_of a (cond t (a ∷ rest) rest) ≡ t
      at true = head-in a rest
      at false = not-in a (a + 1) rest (omega arith) (pick-ascends (a + 1) n)

      here : a ≡ k → is_one_of k (filter test (range_with_len a (suc n))) ≡ test k
      here same = subst (λ (j : ℕ). is_one_of j (filter test (range_with_len a (suc n))) ≡ test j) same (at (test a))

  -- an ascending list of just those is all of them
  pick-is : (a n : ℕ) (ns : List ℕ) → AscendFrom a ns → ((k : ℕ) → a ≤ k → test k ≡ is_one_of k ns)
      → ((k : ℕ) → is_one_of k ns ≡ true → k < a + n) → filter test (range_with_len a n) ≡ ns
  pick-is a zero [] up same high = refl
  pick-is a zero (x ∷ ns) up same high =
      absurd (let less : x < a + 0 = high x (head-in x ns) in omega (arith, up.0))
  pick-is a (suc n) [] up same high =
      ap (λ t. with_first t a (filter test (range_with_len (a + 1) n))) (same a (omega arith))
      ∙ pick-is (a + 1) n [] tt (λ k low. same k (omega arith)) (λ k e. absurd (true≢false (sym e)))
  pick-is a (suc n) (x ∷ ns) up same high = elim (three a x) [
    | inl less ↦ ap (λ t. with_first t a (filter test (range_with_len (a + 1) n)))
        (same a (omega arith) ∙ not-in a x (x ∷ ns) less (omega arith, up.1))
        ∙ pick-is (a + 1) n (x ∷ ns) (omega arith, up.1) (λ k low. same k (omega arith))
        (λ k e. let less : k < a + suc n = high k e in omega arith)
    | inr other ↦ elim other [
      | inl is ↦ here is (pick-is (a + 1) n ns (subst (λ (k : ℕ). AscendFrom (k + 1) ns) (sym is) up.1)
          (λ k low. same k (omega arith) ∙ ap (λ b. b || is_one_of k ns) (apart x k (λ e. omega (arith, e))))
          (λ k e. let less : k < a + suc n = high k (tail-in k x ns e) in omega arith))
      | inr less ↦ absurd (omega (arith, up.0))
    ]
  ]
    where
      here : a ≡ x → filter test (range_with_len (a + 1) n) ≡ ns → filter test (range_with_len a (suc n)) ≡ x ∷ ns
      here is rest =
          ap (λ t. with_first t a (filter test (range_with_len (a + 1) n)))
          (same a (omega arith) ∙ ap (λ (k : ℕ). is_one_of k (x ∷ ns)) is ∙ head-in x ns)
          ∙ (λ i. is i ∷ rest i)

-- ## The numbers of a list

most-kept : (most : ℕ) (ns : List ℕ) → most ≤ fold (λ (most n : ℕ). max most (n + 1)) most ns
most-kept most [] = omega arith
most-kept most (n ∷ ns) = let more = most-kept (max most (n + 1)) ns in omega (arith, more)

none-from : (most k : ℕ) (ns : List ℕ) → fold (λ (most n : ℕ). max most (n + 1)) most ns ≤ k → is_one_of k ns ≡ false
none-from most k [] h = refl
none-from most k (n ∷ ns) h =
    let more = most-kept (max most (n + 1)) ns in
    ap (λ b. b || is_one_of k ns) (apart n k (λ same. omega (arith, same, more)))
    ∙ none-from (max most (n + 1)) k ns h

none-above : (k : ℕ) (ns : List ℕ) → above_numbers ns ≤ k → is_one_of k ns ≡ false
none-above k ns h = none-from 0 k ns h

pub once-ascends : (ns : List ℕ) → Ascend (once ns)
once-ascends ns = pick-ascends (λ k. is_one_of k ns) 0 (above_numbers ns)

-- A number is there exactly where it is in the list.
pub in-once : (k : ℕ) (ns : List ℕ) → is_one_of k (once ns) ≡ is_one_of k ns
in-once k ns =
    ap (is_one_of k) (sym (pick-more (λ k. is_one_of k ns) 0 (above_numbers ns) (max (above_numbers ns) (k + 1))
    (omega arith)
    (λ j low. none-above j ns (omega (arith, low)))))
    ∙ in-pick (λ k. is_one_of k ns) k 0 (max (above_numbers ns) (k + 1)) (omega arith) (omega arith)

-- No other list ascends and has the same numbers.
pub once-is : (ns xs : List ℕ) → Ascend xs → ((k : ℕ) → is_one_of k ns ≡ is_one_of k xs) → once ns ≡ xs
once-is ns xs up same = pick-is (λ k. is_one_of k ns) 0 (above_numbers ns) xs up (λ k low. same k)
    (λ k e. below k (nat_lt k (above_numbers ns)) refl (same k ∙ e))
  where
    below : (k : ℕ) (t : Bool) → nat_lt k (above_numbers ns) ≡ t → is_one_of k ns ≡ true → k < 0 + above_numbers ns
    below k true e there = let less : k < above_numbers ns = ltb-true k (above_numbers ns) e in omega arith
    below k false e there = absurd (true≢false (sym there ∙ none-above k ns (ltb-false k (above_numbers ns) e)))

pub once-same : (xs ys : List ℕ) → ((k : ℕ) → is_one_of k xs ≡ is_one_of k ys) → once xs ≡ once ys
once-same xs ys same = once-is xs (once ys) (once-ascends ys) (λ k. same k ∙ sym (in-once k ys))

-- ## One number more

pub with_number-ascends : (n : ℕ) (ns : List ℕ) → Ascend (with_number n ns)
unfolding with_number
with_number-ascends n ns = once-ascends (ns ++ n ∷ [])

pub once-more : (n : ℕ) (ns : List ℕ) → once (ns ++ n ∷ []) ≡ with_number n (once ns)
unfolding with_number
once-more n ns = once-same (ns ++ n ∷ []) (once ns ++ n ∷ []) (λ k.
    list_any-append (λ (other : ℕ). other == k) ns (n ∷ [])
    ∙ ap (λ b. b || is_one_of k (n ∷ [])) (sym (in-once k ns))
    ∙ sym (list_any-append (λ (other : ℕ). other == k) (once ns) (n ∷ [])))

-- what ascends and has the number beside the others is the list with the number
pub with_number-is : (n : ℕ) (ns xs : List ℕ) → Ascend xs
    → ((k : ℕ) → (is_one_of k ns || (n == k)) ≡ is_one_of k xs) → with_number n ns ≡ xs
unfolding with_number
with_number-is n ns xs up same = once-is (ns ++ n ∷ []) xs up (λ k.
    list_any-append (λ (other : ℕ). other == k) ns (n ∷ [])
    ∙ ap (λ b. is_one_of k ns || b) (or-false (n == k)) ∙ same k)
