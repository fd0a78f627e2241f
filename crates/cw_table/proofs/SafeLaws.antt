-- A safe distance is safe.
use Rattle.cw_table.proofs.Terms.{◌≡◌, ◌<◌, ◌≤◌, ◌+◌, ◌-◌, ◌∙◌, sym, ap, ℕ, zero, suc, Bool, true, false, not, List, []}
use Rattle.cw_table.proofs.Terms.{◌∷◌, ◌++◌, length, map, get_or, take, drop, Some, None, refl, arith, ◌&&◌, ◌||◌, inl}
use Rattle.cw_table.proofs.Terms.{inr, eqb, leb, ltb, length-take-le, length-drop, take-append-drop, add-zero, flat_map}
use Rattle.cw_table.proofs.Terms.{list_all, list_any, filter, eqb-true, ltb-true, lt-ltb, eqb_tells, leb_tells}
use Rattle.cw_table.proofs.Terms.{nat_tests, drop-append-le, get_or_past, get_or-append-add, get_or-append_right}
use Rattle.cw_table.proofs.Terms.{get_or-drop, get_or-take, get_or_append_left, common_steps, Cat, End, CatSet}
use Rattle.cw_table.proofs.Terms.{all_cats, in_set, meet, number_of, each-of, place-of, any-at, meet-by, both}
use Rattle.cw_table.proofs.Terms.{both-failed, both-left, both-right, not-false, not-true, other-one, one-failed-left}
use Rattle.cw_table.proofs.Terms.{one-failed-right, one-left, one-right, RowResult, Is, SameAs, Row, all_hold, first_of}
use Rattle.cw_table.proofs.Terms.{row_fits, empty, result_at, test, tests_of, Pair, SafeIsSound, brings, is_hazard}
use Rattle.cw_table.proofs.Terms.{least, members, pairs_by, pairs_of, reserves, safe, sees_moved, suits_after}
use Rattle.cw_table.proofs.Terms.{suits_before, IsSound, numbers_from, row_is_sound}
use Rattle.std.proofs.Math.Seq.{get_or-append_seam}
use Rattle.cw_table.specs.Safe.{endangers}
use Rattle.cw_table.proofs.FirstLaws.{first-behind, first-here, length-tests_of}
use Rattle.cw_table.proofs.Soundness.{sound-row}

-- Lists and tests.

pub all-numbers : (p : ℕ → Bool) (first n : ℕ) → ((i : ℕ) → i < n → p (first + i) ≡ true)
    → list_all p (numbers_from first n) ≡ true
all-numbers p first zero h = refl
all-numbers p first (suc n) h = both _ _ (ap p (sym (add-zero first)) ∙ h 0 (omega arith)) (all-numbers p (suc first) n
    (λ i lt. let e : suc first + i ≡ first + suc i = omega arith in ap p e ∙ h (suc i) (omega arith)))

pub any-map : {X Y : Type 0} (p : Y → Bool) (f : X → Y) (xs : List X) → list_any p (map f xs)
    ≡ list_any (λ x. p (f x)) xs
any-map p f [] = refl
any-map p f (x ∷ xs) = ap (λ b. p (f x) || b) (any-map p f xs)

any-append : {X : Type 0} (p : X → Bool) (xs ys : List X) → list_any p ys ≡ true → list_any p (xs ++ ys) ≡ true
any-append p [] ys h = h
any-append p (x ∷ xs) ys h = one-right _ _ (any-append p xs ys h)

any-append-left : {X : Type 0} (p : X → Bool) (xs ys : List X) → list_any p xs ≡ true → list_any p (xs ++ ys) ≡ true
any-append-left p [] ys h = absurd cc
any-append-left p (x ∷ xs) ys h = grind (arith, nat_tests, any-append-left p xs ys, one-left, one-right)

-- an element of a list gives its piece of the flat list
any-flat : {X Y : Type 0} (p : Y → Bool) (f : X → List Y) (xs : List X) → list_any (λ x. list_any p (f x)) xs ≡ true
    → list_any p (flat_map f xs) ≡ true
any-flat p f [] h = absurd cc
any-flat p f (x ∷ xs) h = grind (arith, nat_tests, any-flat p f xs, any-append-left, any-append)

pub filter-yes : {X : Type 0} (q : X → Bool) (x : X) (xs : List X) → q x ≡ true → filter q (x ∷ xs) ≡ x ∷ filter q xs
filter-yes {X} q x xs e = rw e refl

pub filter-no : {X : Type 0} (q : X → Bool) (x : X) (xs : List X) → q x ≡ false → filter q (x ∷ xs) ≡ filter q xs
filter-no {X} q x xs e = rw e refl

any-filter : {X : Type 0} (p q : X → Bool) (xs : List X) → list_any (λ x. q x && p x) xs ≡ true
    → list_any p (filter q xs) ≡ true
any-filter p q [] h = h
any-filter p q (x ∷ xs) h = grind (arith, nat_tests, any-filter p q xs, filter-yes, one-left, one-right, filter-no)

any-member : (p : Cat → Bool) (s : CatSet) (c : Cat) → in_set s c ≡ true → p c ≡ true → list_any p (members s) ≡ true
any-member p s c h k = any-filter p (in_set s) all_cats
    (any-at (λ x. in_set s x && p x) all_cats (number_of c) c (place-of c) (both _ _ h k))

-- A row that fits holds at each place, and the other way round.

pub hold-at : (tests : List CatSet) (cats : List Cat) (k : ℕ) → all_hold tests cats ≡ true → k < length tests
    → in_set (get_or tests k empty) (get_or cats k End) ≡ true
hold-at [] cats k h lt = absurd (omega arith)
hold-at (test ∷ tests) [] zero h lt = both-left _ _ h
hold-at (test ∷ tests) [] (suc k) h lt = hold-at tests [] k (both-right _ _ h) (omega arith)
hold-at (test ∷ tests) (cat ∷ cats) zero h lt = both-left _ _ h
hold-at (test ∷ tests) (cat ∷ cats) (suc k) h lt = hold-at tests cats k (both-right _ _ h) (omega arith)

pub hold-from : (tests : List CatSet) (cats : List Cat) → ((k : ℕ) → k < length tests → in_set (get_or tests k empty)
    (get_or cats k End) ≡ true) → all_hold tests cats ≡ true
hold-from [] cats h = refl
hold-from (test ∷ tests) [] h = both _ _ (h 0 (omega arith)) (hold-from tests [] (λ k lt. h (suc k) (omega arith)))
hold-from (test ∷ tests) (cat ∷ cats) h =
    both _ _ (h 0 (omega arith)) (hold-from tests cats (λ k lt. h (suc k) (omega arith)))

pub same-pairs : (row : Row) (k : ℕ) → eqb k row.offset ≡ true → pairs_by (SameAs k) row
    ≡ map (λ c. (c, c)) (members (test row row.offset))
same-pairs row k e = rw (e, pairs_by) refl

pub other-pairs : (row : Row) (k : ℕ) → eqb k row.offset ≡ false → pairs_by (SameAs k) row
    ≡ flat_map (λ o. map (λ n. (o, n)) (members (test row k))) (members (test row row.offset))
other-pairs row k e = rw (e, pairs_by) refl

-- the pair of categories that was really there is a pair of the row
any-pair : (row : Row) (w : List Cat) (p : Pair → Bool) → IsSound row → row_fits row w ≡ true
    → p (get_or w row.offset End, result_at row.result w) ≡ true → list_any p (pairs_of row) ≡ true
any-pair row w p sound fits h = by_result row.result refl h
  where
    fit : (k : ℕ) → k < row.test_count → in_set (test row k) (get_or w k End) ≡ true
    fit k lt = hold-at (tests_of row) w k fits (omega (arith, length-tests_of row sound))

    old : in_set (test row row.offset) (get_or w row.offset End) ≡ true
    old = fit row.offset (omega (arith, sound.replaced_tested, sound.some_replaced))

    by_same : (k : ℕ) (b : Bool) → row.result ≡ SameAs k → eqb k row.offset ≡ b
        → p (get_or w row.offset End, get_or w k End) ≡ true → list_any p (pairs_by (SameAs k) row) ≡ true
    by_same k true r e q = ap (list_any p) (same-pairs row k e)
        ∙ any-map p (λ c. (c, c)) (members (test row row.offset)) ∙ any-member (λ c. p (c, c)) _
        (get_or w row.offset End) old (ap (λ n. p (get_or w row.offset End, get_or w n End)) (sym (eqb-true _ _ e)) ∙ q)
    by_same k false r e q = ap (list_any p) (other-pairs row k e) ∙ any-flat p (λ o. map (λ n. (o, n)) (members
        (test row k))) (members (test row row.offset)) (any-member (λ o. list_any p (map (λ n. (o, n)) (members (test
        row k)))) _ (get_or w row.offset End) old (any-map p (λ n. (get_or w row.offset End, n)) (members (test row k))
        ∙ any-member (λ n. p (get_or w row.offset End, n)) _ (get_or w k End) (fit k (sound.same_as_tested k r)) q))

    by_result : (result : RowResult) → row.result ≡ result → p (get_or w row.offset End, result_at result w) ≡ true
        → list_any p (pairs_by result row) ≡ true
    by_result (Is new) r q = any-map p (λ c. (c, new)) (members (test row row.offset))
        ∙ any-member (λ c. p (c, new)) _ (get_or w row.offset End) old q
    by_result (SameAs k) r q = by_same k (eqb k row.offset) r refl q

fit-at : (row : Row) (w : List Cat) → IsSound row → row_fits row w ≡ true → (k : ℕ) → k < row.test_count
    → in_set (test row k) (get_or w k End) ≡ true
fit-at row w sound fits k lt = hold-at (tests_of row) w k fits (omega (arith, length-tests_of row sound))

-- what is replaced stands in the list
pub begins-inside : (row : Row) (w : List Cat) → IsSound row → row_fits row w ≡ true → row.offset < length w
begins-inside row w sound fits = grind (
  arith,
  nat_tests,
  common_steps,
  leb_tells (length w) row.offset,
  fit-at row w sound fits row.offset (omega (arith, sound.replaced_tested, sound.some_replaced)),
  leb_tells,
  fit-at,
  get_or_past,
)

-- One row before another: `pre` are the categories between the places of the two, `w` those from the place of
-- the row that is applied on, and `rest` what stands to the right of the new scrap.
module _ (r t : Row) (pre w rest : List Cat) (sr : IsSound r) (st : IsSound t) (fr : row_fits r w
    ≡ true) (keep : reserves r ≡ false → rest ≡ drop (r.offset + r.replaced) w) where
  abbrev after : List Cat
  after = take r.offset w ++ result_at r.result w ∷ rest

  abbrev q : ℕ
  q = length pre + r.offset

  fit : (k : ℕ) → k < r.test_count → in_set (test r k) (get_or w k End) ≡ true
  fit k lt = fit-at r w sr fr k lt

  length-front : length (take r.offset w) ≡ r.offset
  length-front = length-take-le r.offset w (omega (arith, begins-inside r w sr fr))

  -- before the new scrap all is as it was
  at-before : (k : ℕ) → k < q → get_or (pre ++ after) k End ≡ get_or (pre ++ w) k End
  at-before k lt = elim (leb_tells (length pre) k) [
    | inl right ↦ (
        let here : k - length pre < r.offset = omega (arith, right.1) in
        get_or-append_right pre after (length pre) k End refl right.1 ∙ get_or_append_left (take r.offset w) _ End
        (k - length pre) (omega (arith, length-front)) ∙ get_or-take r.offset w (k - length pre) End here
        ∙ sym (get_or-append_right pre w (length pre) k End refl right.1))
    | inr left ↦ get_or_append_left pre after End k left.1 ∙ sym (get_or_append_left pre w End k left.1)
  ]

  at-old : get_or (pre ++ w) q End ≡ get_or w r.offset End
  at-old = get_or-append-add pre w r.offset End

  at-new : get_or (pre ++ after) q End ≡ result_at r.result w
  at-new = grind (arith, nat_tests, get_or-append-add, length-front, get_or-append_seam)

  at-after : (j : ℕ) → get_or (pre ++ after) (q + suc j) End ≡ get_or rest j End
  at-after j =
      let split : q + suc j ≡ length pre + (r.offset + suc j) = omega arith in
      let front : r.offset + suc j ≡ length (take r.offset w) + suc j = omega (arith, length-front) in
      ap (λ n. get_or (pre ++ after) n End) split ∙ get_or-append-add pre after (r.offset + suc j) End ∙ ap
      (λ n. get_or after n End) front ∙ get_or-append-add (take r.offset w) (result_at r.result w ∷ rest) (suc j) End

  at-kept : (j : ℕ) → reserves r ≡ false → get_or (pre ++ after) (q + suc j) End
      ≡ get_or w (r.offset + r.replaced + j) End
  at-kept j none = at-after j ∙ ap (λ xs. get_or xs j End) (keep none) ∙ get_or-drop (r.offset + r.replaced) w j End

  module _ (ft : row_fits t (pre ++ after) ≡ true) where
    fit-new : (k : ℕ) → k < t.test_count → in_set (test t k) (get_or (pre ++ after) k End) ≡ true
    fit-new k lt = hold-at (tests_of t) (pre ++ after) k ft (omega (arith, length-tests_of t st))

    before-suits : q < t.test_count → suits_before r t (length pre) ≡ true
    before-suits lt = all-numbers _ 0 r.offset (λ i below.
        let zero-i : 0 + i ≡ i = omega arith in
        ap (λ n. meet (test t (length pre + n)) (test r n)) zero-i ∙ meet-by _ _ (get_or w i End) (ap (in_set
        (test t (length pre + i))) (sym (at-before (length pre + i) (omega arith) ∙ get_or-append-add pre w i End))
        ∙ fit-new (length pre + i) (omega arith)) (fit i (omega (arith, sr.replaced_tested))))

    after-suits : reserves r ≡ false → suits_after r t (length pre) ≡ true
    after-suits none = all-numbers _ (suc q) (t.test_count - suc q) (λ i below.
        let split : suc q + i ≡ q + suc i = omega arith in
        let there : r.offset + r.replaced + i ≡ suc q + i + r.replaced - (length pre + 1) = omega arith in
        elim (leb_tells r.test_count (suc q + i + r.replaced - (length pre + 1))) [
          | inl none ↦ one-left _ _ none.0
          | inr some ↦ one-right _ _ (meet-by _ _ (get_or w (suc q + i + r.replaced - (length pre + 1)) End)
              (ap (in_set (test t (suc q + i))) (sym (ap (λ n. get_or (pre ++ after) n End) split ∙ at-kept i none
              ∙ ap (λ n. get_or w n End) there)) ∙ fit-new (suc q + i) (omega arith)) (fit _ some.1))
        ])

    hazard-is : q < t.test_count → list_any (brings r t q) (pairs_of r) ≡ true → is_hazard r t (length pre)
        ≡ (suits_before r t (length pre) && (reserves r || suits_after r t (length pre)))
    hazard-is lt any = let within : ltb q t.test_count ≡ true = lt-ltb _ _ lt in rw (within, any, is_hazard) refl

    suits : q < t.test_count → (b : Bool) → reserves r ≡ b
        → (suits_before r t (length pre) && (reserves r || suits_after r t (length pre))) ≡ true
    suits lt true e = both _ _ (before-suits lt) (one-left _ _ e)
    suits lt false e = both _ _ (before-suits lt) (one-right _ _ (after-suits e))

    not-brought : q < t.test_count → is_hazard r t (length pre) ≡ false
        → brings r t q (get_or w r.offset End, result_at r.result w) ≡ false
    not-brought lt harmless = go (brings r t q (get_or w r.offset End, result_at r.result w)) refl
      where
        go : (b : Bool) → brings r t q (get_or w r.offset End, result_at r.result w) ≡ b → b ≡ false
        go true e =
            let yes : is_hazard r t (length pre) ≡ true = hazard-is lt (any-pair r w (brings r t q) sr fr e)
            ∙ suits lt (reserves r) refl in
            sym yes ∙ harmless
        go false e = refl

    -- the row fitted there before
    pub fitted-before : is_hazard r t (length pre) ≡ false → row_fits t (pre ++ w) ≡ true
    fitted-before harmless = hold-from (tests_of t) (pre ++ w)
        (λ k lt. each k (omega (arith, lt, length-tests_of t st)))
      where
        there : (k : ℕ) → k < t.test_count → get_or (pre ++ after) k End ≡ get_or (pre ++ w) k End
            → in_set (test t k) (get_or (pre ++ w) k End) ≡ true
        there k lt e = ap (in_set (test t k)) (sym e) ∙ fit-new k lt

        left : q < t.test_count → (not (in_set (test t q) (get_or w r.offset End)) || sees_moved r t q) ≡ false
        left lt =
            let new : in_set (test t q) (result_at r.result w) ≡ true = ap (in_set (test t q)) (sym at-new)
            ∙ fit-new q lt in
            both-failed _ _ (not-brought lt harmless) new

        behind : (k : ℕ) → q < k → k < t.test_count → get_or (pre ++ after) k End ≡ get_or (pre ++ w) k End
        behind k above lt =
            let more : ltb (suc q) t.test_count ≡ true = lt-ltb _ _ (omega arith) in
            let neither : (leb 2 r.replaced || reserves r)
            ≡ false = both-failed (ltb (suc q) t.test_count) (leb 2 r.replaced || reserves r)
            (one-failed-right (not (in_set (test t q) (get_or w r.offset End))) (sees_moved r t q)
            (left (omega arith))) more in
            let one : r.replaced ≡ 1 = elim (leb_tells 2 r.replaced) [
              | inl two ↦ absurd (let no_two : leb 2 r.replaced ≡ false = one-failed-left (leb 2 r.replaced)
                  (reserves r) neither in let two_yes : leb 2 r.replaced ≡ true = two.0 in cc)
              | inr few ↦ omega (arith, few.1, sr.some_replaced)
            ] in
            let split : k ≡ q + suc (k - suc q) = omega arith in
            let same : r.offset + r.replaced + (k - suc q) ≡ k - length pre = omega arith in
            ap (λ n. get_or (pre ++ after) n End) split
            ∙ at-kept (k - suc q) (one-failed-right (leb 2 r.replaced) (reserves r) neither)
            ∙ ap (λ n. get_or w n End) same
            ∙ sym (get_or-append_right pre w (length pre) k End refl (omega arith))

        each : (k : ℕ) → k < t.test_count → in_set (test t k) (get_or (pre ++ w) k End) ≡ true
        each k lt = elim (leb_tells q k) [
          | inr before ↦ there k lt (at-before k before.1)
          | inl not_before ↦ elim (eqb_tells q k) [
            | inl here ↦ (
                let old : in_set (test t q) (get_or w r.offset End) ≡ true =
                not-false _ (one-failed-left _ _ (left (omega (arith, here.1)))) in
                ap (λ n. in_set (test t n) (get_or (pre ++ w) n End)) (sym here.1) ∙ ap (in_set (test t q)) at-old
                ∙ old)
            | inr other ↦ there k lt (behind k (omega (arith, other.1, not_before.1)) lt)
          ]
        ]

-- What the first row that fits is.
pub first-fits : (rows : List Row) (cats : List Cat) (row : Row) → first_of rows cats ≡ Some row
    → list_all row_is_sound rows ≡ true → (row_fits row cats ≡ true) × (row_is_sound row ≡ true)
first-fits [] cats row e h = absurd cc
first-fits (r ∷ rows) cats row e h = go (row_fits r cats) refl (λ f. first-fits rows cats row f (both-right _ _ h))
  where
    go : (b : Bool) → row_fits r cats ≡ b → (first_of rows cats ≡ Some row → (row_fits row cats ≡ true)
        × (row_is_sound row ≡ true)) → (row_fits row cats ≡ true) × (row_is_sound row ≡ true)
    go true f rest =
        let same : r ≡ row = let one : Some r ≡ Some row = sym (first-here r rows cats f) ∙ e in cc in
        (ap (λ x. row_fits x cats) (sym same) ∙ f, ap row_is_sound (sym same) ∙ both-left _ _ h)
    go false f rest = rest (sym (first-behind r rows cats f) ∙ e)

pub none-fits : (row : Row) (rows : List Row) (cats : List Cat) → first_of (row ∷ rows) cats ≡ None
    → (row_fits row cats ≡ false) × (first_of rows cats ≡ None)
none-fits row rows cats e = grind (arith, nat_tests, first-here, first-behind)

-- a row sees four scraps: from further before it never sees the new one
far-harmless : (r t : Row) (e : ℕ) → IsSound t → 3 < e → is_hazard r t e ≡ false
far-harmless r t e st far = grind (arith, nat_tests, ltb-true)

-- no row fits where none is brought to fit and none fitted
none-after : (rows : List Row) (r : Row) (pre w rest : List Cat) → IsSound r → row_fits r w ≡ true
    → (reserves r ≡ false → rest ≡ drop (r.offset + r.replaced) w) → list_all row_is_sound rows ≡ true
    → (length pre ≤ 3 → list_any (λ t. is_hazard r t (length pre)) rows ≡ false) → first_of rows (pre ++ w) ≡ None
    → first_of rows (pre ++ (take r.offset w ++ result_at r.result w ∷ rest)) ≡ None
none-after [] r pre w rest sr fr keep h safe_from none = refl
none-after (t ∷ rows) r pre w rest sr fr keep h safe_from none = go
    (row_fits t (pre ++ (take r.offset w ++ result_at r.result w ∷ rest))) refl (none-after rows r pre w rest sr fr keep
    (both-right _ _ h) (λ near. one-failed-right _ _ (safe_from near)) before.1)
  where
    before : (row_fits t (pre ++ w) ≡ false) × (first_of rows (pre ++ w) ≡ None)
    before = none-fits t rows (pre ++ w) none

    st : IsSound t
    st = sound-row t (both-left _ _ h)

    harmless : is_hazard r t (length pre) ≡ false
    harmless = elim (leb_tells (length pre) 3) [
      | inl near ↦ one-failed-left _ _ (safe_from near.1)
      | inr far ↦ far-harmless r t (length pre) st far.1
    ]

    go : (b : Bool) → row_fits t (pre ++ (take r.offset w ++ result_at r.result w ∷ rest)) ≡ b
        → first_of rows (pre ++ (take r.offset w ++ result_at r.result w ∷ rest)) ≡ None
        → first_of (t ∷ rows) (pre ++ (take r.offset w ++ result_at r.result w ∷ rest)) ≡ None
    go true f others = absurd (
        let old : row_fits t (pre ++ w) ≡ true = fitted-before r t pre w rest sr st fr keep f harmless in
        let new = before.0 in cc)
    go false f others = first-behind t rows _ f ∙ others

-- none of the rows is in danger further before than a safe distance
beyond : (rows : List Row) (r : Row) (d e : ℕ) → (leb e d || not (endangers rows r e)) ≡ true → d < e
    → endangers rows r e ≡ false
beyond rows r d e h lt = grind (arith, nat_tests, leb_tells, not-true, other-one)

drop-front : (lower place : ℕ) (cats more : List Cat) → place ≤ length cats → lower ≤ place
    → drop lower (take place cats ++ more) ≡ drop lower (take place cats) ++ more
drop-front lower place cats more h k = grind (arith, nat_tests, drop-append-le, length-take-le)

whole-front : (lower place : ℕ) (cats : List Cat) → place ≤ length cats → lower ≤ place
    → drop lower (take place cats) ++ drop place cats ≡ drop lower cats
whole-front lower place cats h k = sym (drop-front lower place cats (drop place cats) h k)
    ∙ ap (drop lower) (take-append-drop place cats)

safe-beyond : (rows : List Row) (r : Row) (d e : ℕ) → safe rows r d ≡ true → d < e → e ≤ 3
    → list_any (λ t. is_hazard r t e) rows ≡ false
unfolding endangers
safe-beyond rows r d zero h lt near = absurd (omega arith)
safe-beyond rows r d (suc zero) h lt near = grind (arith, nat_tests, beyond, each-of)
safe-beyond rows r d (suc (suc zero)) h lt near = grind (arith, nat_tests, beyond, each-of)
safe-beyond rows r d (suc (suc (suc zero))) h lt near = grind (arith, nat_tests, beyond, each-of)
safe-beyond rows r d (suc (suc (suc (suc e)))) h lt near = absurd (omega arith)

pub safe-sound : (rows : List Row) (r : Row) → list_all row_is_sound rows ≡ true → SafeIsSound rows r
safe-sound rows r sound d place lower cats rest h least keep lt = ap (first_of rows) (drop-front lower place cats _
    inside (omega arith)) ∙ none-after rows r (drop lower (take place cats)) (drop place cats) rest sr fits.0 keep sound
    (λ near. safe-beyond rows r d (length (drop lower (take place cats))) h (omega (arith, length-pre)) near)
    (ap (first_of rows) (whole-front lower place cats inside (omega arith)) ∙ least.none_below lower (omega arith))
  where
    fits : (row_fits r (drop place cats) ≡ true) × (row_is_sound r ≡ true)
    fits = first-fits rows (drop place cats) r least.fits sound

    sr : IsSound r
    sr = sound-row r fits.1

    inside : place ≤ length cats
    inside = omega (arith, begins-inside r (drop place cats) sr fits.0, length-drop place cats)

    length-pre : length (drop lower (take place cats)) ≡ place - lower
    length-pre = length-drop lower (take place cats) ∙ ap (λ n. n - lower) (length-take-le place cats inside)

-- the least safe distance is safe
pub least-safe : (rows : List Row) (r : Row) → safe rows r (least rows r) ≡ true
least-safe rows r = grind (arith, nat_tests)

pub least-at-most : (rows : List Row) (r : Row) → least rows r ≤ 3
least-at-most rows r = grind (arith, nat_tests)
