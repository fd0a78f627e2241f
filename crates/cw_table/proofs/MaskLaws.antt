-- The masks of the code are those of the productions, and their meeting is the first row that fits.
use Rattle.cw_table.proofs.Terms.{◌≡◌, ◌<◌, ◌≤◌, ◌+◌, ◌*◌, ◌∙◌, sym, ap, subst, ℕ, suc, Bool, true, false, not, cond}
use Rattle.cw_table.proofs.Terms.{eqb, eq-eqb, List, [], ◌∷◌, length, map, get_or, Some, None, refl, arith, add-zero}
use Rattle.cw_table.proofs.Terms.{◌&&◌, ◌||◌, drop, leb, length-drop, Option, take, zero, zero-add, list_all, list_any}
use Rattle.cw_table.proofs.Terms.{prefix_len, bit_and, eqb-false, eqb-true, ne_eqb, get_or-map, length-take}
use Rattle.cw_table.proofs.Terms.{get_or_from_slice_get, slice_get_within, Cat, CatSet, all_cats, in_set, number_of}
use Rattle.cw_table.proofs.Terms.{place-of, both, both-left, both-right, not-false, ROW_COUNT, RowSet, Row, all_hold}
use Rattle.cw_table.proofs.Terms.{first_of, row_fits, empty, IsSound, are_numbered, row_is_sound, nat_tests}
use Rattle.cw_table.proofs.Terms.{common_steps}
use Rattle.std.specs.{Int.Bits.and_zero_l, Int.Count.count_trailing_zeros, Option.option_map, Simd.Lanes.mask_l}
use Rattle.std.proofs.{lemmas.Nat.and_block, lemmas.Simd.trailing_mask_l}
use Rattle.cw_table.specs.{declared.types.RowNo.RowNo, Masks.admits, model.Masks.mask_of, Productions.productions}
use Rattle.cw_table.specs.declared.masks.TheConstants.{EARLY, MASKS}
use Rattle.cw_table.proofs.{Examples.productions-numbered, Examples.productions-sound, Joining.productions-length}
use Rattle.cw_table.proofs.{Soundness.sound-row}
use Rattle.cw_table.proofs.FirstLaws.{first-behind, first-here, length-tests_of}

-- the two words of a set
abbrev set_at : Cat → ℕ → RowSet
set_at cat q = record { early = mask_of (take EARLY productions) q cat; late = mask_of (drop EARLY productions) q cat }

abbrev sets_at : Cat → List RowSet
sets_at cat = map (set_at cat) (0 ∷ 1 ∷ 2 ∷ 3 ∷ [])

masks-are : MASKS ≡ map sets_at all_cats
unfolding productions
masks-are = refl

four-get : (f : ℕ → RowSet) (q : ℕ) (d : RowSet) → q < 4 → get_or (map f (0 ∷ 1 ∷ 2 ∷ 3 ∷ [])) q d ≡ f q
four-get f x2 d h = grind (arith, nat_tests)

pub mask-is : (cat : Cat) (n q : ℕ) (d : List RowSet) (e : RowSet) → n ≡ number_of cat → q < 4
    → get_or (get_or MASKS n d) q e ≡ set_at cat q
mask-is cat n q d e is h = ap (λ sets. get_or (get_or sets n d) q e) masks-are ∙ ap
    (λ k. get_or (get_or (map sets_at all_cats) k d) q e) is ∙ ap (λ four. get_or four q e) (get_or-map sets_at all_cats
    (number_of cat) cat d (slice_get_within all_cats (number_of cat) cat (place-of cat))) ∙ ap (λ c. get_or (sets_at c)
    q e) (get_or_from_slice_get all_cats (number_of cat) cat cat (place-of cat)) ∙ four-get (set_at cat) q e h

-- the meeting of two numbers, bit by bit
and-step : (r s m n : ℕ) → r < 2 → s < 2 → bit_and (r + 2 * m) (s + 2 * n) ≡ bit_and r s + 2 * bit_and m n
and-step r s m n h k = grind (arith, nat_tests, common_steps, and_block 1 m n r s h k, and_block)

and-bits : (a b : Bool) (m n : ℕ) → bit_and (cond a 1 0 + 2 * m) (cond b 1 0 + 2 * n)
    ≡ cond (a && b) 1 0 + 2 * bit_and m n
and-bits x1 x2 m n = grind (arith, nat_tests, and-step)

and-masks : (p q : Row → Bool) (rows : List Row) → bit_and (mask_l (map p rows)) (mask_l (map q rows))
    ≡ mask_l (map (λ r. p r && q r) rows)
and-masks p q [] = refl
and-masks p q (r ∷ rows) = grind (arith, nat_tests, and-masks p q rows, and-bits)

-- what one row's bits in the four masks say together
four-tests : (tests : List CatSet) (a b c e : Cat) → length tests ≤ 4
    → all_hold tests (a ∷ b ∷ c ∷ e ∷ []) ≡ ((((leb (length tests) 0 || in_set (get_or tests 0 empty) a) && (leb
    (length tests) 1 || in_set (get_or tests 1 empty) b)) && (leb (length tests) 2 || in_set (get_or tests 2 empty) c))
    && (leb (length tests) 3 || in_set (get_or tests 3 empty) e))
four-tests [] a b c e h = refl
four-tests (t ∷ []) a b c e h = grind (arith, nat_tests)
four-tests (t ∷ u ∷ []) a b c e h = grind (arith, nat_tests)
four-tests (t ∷ u ∷ v ∷ []) a b c e h = grind (arith, nat_tests)
four-tests (t ∷ u ∷ v ∷ w ∷ []) a b c e h = grind (arith, nat_tests)
four-tests (t ∷ u ∷ v ∷ w ∷ x ∷ tests) a b c e h = absurd (omega arith)

abbrev all_admit : Cat → Cat → Cat → Cat → Row → Bool
all_admit a b c e row = ((admits 0 a row && admits 1 b row) && admits 2 c row) && admits 3 e row

admit-fits : (row : Row) (a b c e : Cat) → IsSound row → all_admit a b c e row ≡ row_fits row (a ∷ b ∷ c ∷ e ∷ [])
admit-fits row a b c e sound = grind (arith, nat_tests, length-tests_of, four-tests)

map-fits : (rows : List Row) (a b c e : Cat) → list_all row_is_sound rows ≡ true → map (all_admit a b c e) rows
    ≡ map (λ row. row_fits row (a ∷ b ∷ c ∷ e ∷ [])) rows
map-fits [] a b c e h = refl
map-fits (row ∷ rows) a b c e h =
    let first = admit-fits row a b c e (sound-row row (both-left _ _ h)) in
    let rest = map-fits rows a b c e (both-right _ _ h) in
    ap (λ x. x ∷ map (all_admit a b c e) rows) first ∙ ap (λ xs. row_fits row (a ∷ b ∷ c ∷ e ∷ []) ∷ xs) rest

-- the four masks together: the rows that fit the window
masks-fit : (rows : List Row) (a b c e : Cat) → list_all row_is_sound rows ≡ true
    → bit_and (bit_and (bit_and (mask_of rows 0 a) (mask_of rows 1 b)) (mask_of rows 2 c)) (mask_of rows 3 e)
    ≡ mask_l (map (λ row. row_fits row (a ∷ b ∷ c ∷ e ∷ [])) rows)
masks-fit rows a b c e h = ap (λ m. bit_and (bit_and m (mask_of rows 2 c)) (mask_of rows 3 e))
    (and-masks (admits 0 a) (admits 1 b) rows) ∙ ap (λ m. bit_and m (mask_of rows 3 e))
    (and-masks (λ r. admits 0 a r && admits 1 b r) (admits 2 c) rows) ∙ and-masks
    (λ r. (admits 0 a r && admits 1 b r) && admits 2 c r) (admits 3 e) rows ∙ ap mask_l (map-fits rows a b c e h)

-- no bit: no row fits; and the lowest bit is the first row that fits
no-mask : (rows : List Row) (cats : List Cat) → mask_l (map (λ row. row_fits row cats) rows) ≡ 0 → first_of rows cats
    ≡ None
no-mask [] cats h = refl
no-mask (row ∷ rows) cats h = grind (arith, nat_tests, no-mask rows cats, first-behind)

abbrev fit_mask : List Row → List Cat → ℕ
fit_mask rows cats = mask_l (map (λ row. row_fits row cats) rows)

abbrev misfits : List Row → List Cat → ℕ
misfits rows cats = prefix_len (λ row. not (row_fits row cats)) rows

lowest-mask : (rows : List Row) (first : ℕ) (cats : List Cat) → are_numbered first rows ≡ true → 0 < fit_mask rows cats
    → option_map (λ row. row.number) (first_of rows cats) ≡ Some (record { number = first + misfits rows cats })
lowest-mask [] first cats numbered h = absurd (omega arith)
lowest-mask (row ∷ rows) first cats numbered h = go (row_fits row cats) refl
    (lowest-mask rows (suc first) cats (both-right _ _ numbered))
  where
    go : (b : Bool) → row_fits row cats ≡ b → (0 < fit_mask rows cats → option_map (λ r. r.number)
        (first_of rows cats) ≡ Some (record { number = suc first + misfits rows cats })) → option_map (λ r. r.number)
        (first_of (row ∷ rows) cats) ≡ Some (record { number = first + misfits (row ∷ rows) cats })
    go true e rest = ap (option_map (λ r. r.number)) (first-here row rows cats e)
        ∙ ap (λ n. Some (record { number = n })) (eqb-true _ _ (both-left _ _ numbered) ∙ sym (add-zero first)
        ∙ ap (λ b. first + cond (not b) (1 + misfits rows cats) 0) (sym e))
    go false e rest =
        let m : 0 < cond false 1 0 + 2 * fit_mask rows cats = subst (λ b. 0 < cond b 1 0 + 2 * fit_mask rows cats) e
        h in
        let next : suc first + misfits rows cats ≡ first + (1 + misfits rows cats) = omega arith in
        ap (option_map (λ r. r.number)) (first-behind row rows cats e)
        ∙ rest (omega arith)
        ∙ ap (λ n. Some (record { number = n })) (next
        ∙ ap (λ b. first + cond (not b) (1 + misfits rows cats) 0) (sym e))

-- the number of the first row that fits is that of a row
misfits-below : (rows : List Row) (cats : List Cat) → 0 < fit_mask rows cats → misfits rows cats < length rows
misfits-below [] cats h = absurd (omega arith)
misfits-below (row ∷ rows) cats h = grind (arith, nat_tests, misfits-below rows cats)

-- Each word has some of the rows, from a number on, as many as it has bits at most.
record IsWord (bits first : ℕ) (rows : List Row) : Type 0 where
  sound : list_all row_is_sound rows ≡ true
  numbered : are_numbered first rows ≡ true
  fits_bits : length rows ≤ bits

-- the rows before a number and those from it on
pass-take : {X : Type 0} (p : X → Bool) (n : ℕ) (xs : List X) → list_all p xs ≡ true → list_all p (take n xs) ≡ true
pass-take p zero xs h = refl
pass-take p (suc n) [] h = refl
pass-take p (suc n) (x ∷ xs) h = both _ _ (both-left _ _ h) (pass-take p n xs (both-right _ _ h))

pass-drop : {X : Type 0} (p : X → Bool) (n : ℕ) (xs : List X) → list_all p xs ≡ true → list_all p (drop n xs) ≡ true
pass-drop p zero xs h = h
pass-drop p (suc n) [] h = refl
pass-drop p (suc n) (x ∷ xs) h = pass-drop p n xs (both-right _ _ h)

numbered-take : (n first : ℕ) (rows : List Row) → are_numbered first rows ≡ true → are_numbered first (take n rows)
    ≡ true
numbered-take zero first rows h = refl
numbered-take (suc n) first [] h = refl
numbered-take (suc n) first (row ∷ rows) h =
    both _ _ (both-left _ _ h) (numbered-take n (suc first) rows (both-right _ _ h))

numbered-drop : (n first : ℕ) (rows : List Row) → are_numbered first rows ≡ true → are_numbered (n + first)
    (drop n rows)
    ≡ true
numbered-drop zero first rows h = ap (λ k. are_numbered k rows) (zero-add first) ∙ h
numbered-drop (suc n) first [] h = refl
numbered-drop (suc n) first (row ∷ rows) h =
    let next : n + suc first ≡ suc n + first = omega arith in
    ap (λ k. are_numbered k (drop n rows)) (sym next) ∙ numbered-drop n (suc first) rows (both-right _ _ h)

early-word : IsWord 128 1 (take EARLY productions)
early-word = record {
  sound = pass-take row_is_sound EARLY productions productions-sound;
  numbered = numbered-take EARLY 1 productions productions-numbered;
  fits_bits = omega (arith, length-take EARLY productions);
}

late-word : IsWord 64 (EARLY + 1) (drop EARLY productions)
late-word = record {
  sound = pass-drop row_is_sound EARLY productions productions-sound;
  numbered = numbered-drop EARLY 1 productions productions-numbered;
  fits_bits = omega (arith, length-drop EARLY productions, productions-length);
}

-- what is found among the first rows is found among all, and where nothing is, what is found among the others
found-early : (n : ℕ) (rows : List Row) (cats : List Cat) (found : Row) → first_of (take n rows) cats ≡ Some found
    → first_of rows cats ≡ Some found
found-early zero rows cats found h = absurd cc
found-early (suc n) [] cats found h = absurd cc
found-early (suc n) (row ∷ rows) cats found h = grind (arith, nat_tests, found-early n rows cats found)

found-late : (n : ℕ) (rows : List Row) (cats : List Cat) → first_of (take n rows) cats ≡ None → first_of rows cats
    ≡ first_of (drop n rows) cats
found-late zero rows cats h = refl
found-late (suc n) [] cats h = refl
found-late (suc n) (row ∷ rows) cats h = grind (arith, nat_tests, found-late n rows cats)

-- the four masks of a word
module _ (rows : List Row) (bits first : ℕ) (word : IsWord bits first rows) (a b c e : Cat) (m0 m1 m2 m3 : ℕ)
    (e0 : m0 ≡ mask_of rows 0 a) (e1 : m1 ≡ mask_of rows 1 b) (e2 : m2 ≡ mask_of rows 2 c) (e3 : m3
    ≡ mask_of rows 3 e) where
  met-by : bit_and (bit_and (bit_and m0 m1) m2) m3 ≡ fit_mask rows (a ∷ b ∷ c ∷ e ∷ [])
  met-by = rw (e0, e1, e2, e3) (masks-fit rows a b c e word.sound)

  none-met : bit_and (bit_and (bit_and m0 m1) m2) m3 ≡ 0 → first_of rows (a ∷ b ∷ c ∷ e ∷ []) ≡ None
  none-met none = no-mask rows (a ∷ b ∷ c ∷ e ∷ []) (sym met-by ∙ none)

  module _ (some : bit_and (bit_and (bit_and m0 m1) m2) m3 ≡ 0 → ⊥) where
    positive : 0 < fit_mask rows (a ∷ b ∷ c ∷ e ∷ [])
    positive = subst (λ k. 0 < k) met-by (omega (arith, some))

    lowest : count_trailing_zeros bits (bit_and (bit_and (bit_and m0 m1) m2) m3) ≡ misfits rows (a ∷ b ∷ c ∷ e ∷ [])
    lowest = ap (count_trailing_zeros bits) met-by
        ∙ trailing_mask_l (λ row. row_fits row (a ∷ b ∷ c ∷ e ∷ [])) bits rows word.fits_bits positive

    first-met : option_map (λ row. row.number) (first_of rows (a ∷ b ∷ c ∷ e ∷ []))
        ≡ Some (record { number = first + count_trailing_zeros bits (bit_and (bit_and (bit_and m0 m1) m2) m3) })
    first-met = lowest-mask rows first (a ∷ b ∷ c ∷ e ∷ []) word.numbered positive
        ∙ ap (λ n. Some (record { number = first + n })) (sym lowest)

    first-bound : count_trailing_zeros bits (bit_and (bit_and (bit_and m0 m1) m2) m3) < length rows
    first-bound = omega (arith, lowest, misfits-below rows (a ∷ b ∷ c ∷ e ∷ []) positive)

found-number : (n : ℕ) (rows : List Row) (cats : List Cat) (number : RowNo) → option_map (λ row. row.number)
    (first_of (take n rows) cats) ≡ Some number → option_map (λ row. row.number) (first_of rows cats) ≡ Some number
found-number n rows cats number h = go (first_of (take n rows) cats) refl h
  where
    go : (found : Option Row) → first_of (take n rows) cats ≡ found → option_map (λ row. row.number) found
        ≡ Some number → option_map (λ row. row.number) (first_of rows cats) ≡ Some number
    go None is none = absurd cc
    go (Some row) is some = ap (option_map (λ r. r.number)) (found-early n rows cats row is) ∙ some

-- what the masks of the first word tell
module _ (a b c e : Cat) (m0 m1 m2 m3 : ℕ) (e0 : m0 ≡ mask_of (take EARLY productions) 0 a) (e1 : m1
    ≡ mask_of (take EARLY productions) 1 b) (e2 : m2 ≡ mask_of (take EARLY productions) 2 c) (e3 : m3
    ≡ mask_of (take EARLY productions) 3 e) where
  pub early-none : bit_and (bit_and (bit_and m0 m1) m2) m3 ≡ 0 → option_map (λ row. row.number) (first_of (drop EARLY
      productions) (a ∷ b ∷ c ∷ e ∷ [])) ≡ option_map (λ row. row.number) (first_of productions (a ∷ b ∷ c ∷ e ∷ []))
  early-none none = sym (ap (option_map (λ r. r.number)) (found-late EARLY productions (a ∷ b ∷ c ∷ e ∷ [])
      (none-met (take EARLY productions) 128 1 early-word a b c e m0 m1 m2 m3 e0 e1 e2 e3 none)))

  pub early-first : (bit_and (bit_and (bit_and m0 m1) m2) m3 ≡ 0 → ⊥)
      → Some (record { number = count_trailing_zeros 128 (bit_and (bit_and (bit_and m0 m1) m2) m3) + 1 })
      ≡ option_map (λ row. row.number) (first_of productions (a ∷ b ∷ c ∷ e ∷ []))
  early-first some =
      let number : count_trailing_zeros 128 (bit_and (bit_and (bit_and m0 m1) m2) m3) + 1
      ≡ 1 + count_trailing_zeros 128 (bit_and (bit_and (bit_and m0 m1) m2) m3) = omega arith in
      ap (λ n. Some (record { number = n })) number ∙ sym (found-number EARLY productions (a ∷ b ∷ c ∷ e ∷ []) _
      (first-met (take EARLY productions) 128 1 early-word a b c e m0 m1 m2 m3 e0 e1 e2 e3 some))

  pub early-bound : (bit_and (bit_and (bit_and m0 m1) m2) m3 ≡ 0 → ⊥)
      → count_trailing_zeros 128 (bit_and (bit_and (bit_and m0 m1) m2) m3) + 1 ≤ ROW_COUNT
  early-bound some =
      let below = first-bound (take EARLY productions) 128 1 early-word a b c e m0 m1 m2 m3 e0 e1 e2 e3 some in
      omega (arith, below, length-take EARLY productions, productions-length)

-- what those of the second word tell of the productions behind
module _ (a b c e : Cat) (m0 m1 m2 m3 : ℕ) (e0 : m0 ≡ mask_of (drop EARLY productions) 0 a) (e1 : m1
    ≡ mask_of (drop EARLY productions) 1 b) (e2 : m2 ≡ mask_of (drop EARLY productions) 2 c) (e3 : m3
    ≡ mask_of (drop EARLY productions) 3 e) where
  pub late-none : bit_and (bit_and (bit_and m0 m1) m2) m3 ≡ 0
      → None ≡ option_map (λ row. row.number) (first_of (drop EARLY productions) (a ∷ b ∷ c ∷ e ∷ []))
  late-none none = sym (ap (option_map (λ r. r.number))
      (none-met (drop EARLY productions) 64 (EARLY + 1) late-word a b c e m0 m1 m2 m3 e0 e1 e2 e3 none))

  pub late-first : (bit_and (bit_and (bit_and m0 m1) m2) m3 ≡ 0 → ⊥)
      → Some (record { number = count_trailing_zeros 64 (bit_and (bit_and (bit_and m0 m1) m2) m3) + 1 + EARLY })
      ≡ option_map (λ row. row.number) (first_of (drop EARLY productions) (a ∷ b ∷ c ∷ e ∷ []))
  late-first some =
      let number : count_trailing_zeros 64 (bit_and (bit_and (bit_and m0 m1) m2) m3) + 1 + EARLY
      ≡ EARLY + 1 + count_trailing_zeros 64 (bit_and (bit_and (bit_and m0 m1) m2) m3) = omega arith in
      ap (λ n. Some (record { number = n })) number
      ∙ sym (first-met (drop EARLY productions) 64 (EARLY + 1) late-word a b c e m0 m1 m2 m3 e0 e1 e2 e3 some)

  pub late-bound : (bit_and (bit_and (bit_and m0 m1) m2) m3 ≡ 0 → ⊥)
      → count_trailing_zeros 64 (bit_and (bit_and (bit_and m0 m1) m2) m3) + 1 + EARLY ≤ ROW_COUNT
  late-bound some =
      let below = first-bound (drop EARLY productions) 64 (EARLY + 1) late-word a b c e m0 m1 m2 m3 e0 e1 e2 e3 some in
      omega (arith, below, length-drop EARLY productions, productions-length)

-- some bit of the masks of two places: some row admits the two categories there
any-mask : (p : Row → Bool) (rows : List Row) → not (eqb (mask_l (map p rows)) 0) ≡ list_any p rows
any-mask p [] = refl
any-mask p (row ∷ rows) = grind (arith, nat_tests, any-mask p rows, ne_eqb, eqb-true, eq-eqb, eqb-false)

abbrev pub two_admit : Cat → Cat → Row → Bool
two_admit a b row = admits 0 a row && admits 1 b row

any-parts : (p : Row → Bool) (n : ℕ) (rows : List Row) → (list_any p (take n rows) || list_any p (drop n rows))
    ≡ list_any p rows
any-parts p zero rows = refl
any-parts p (suc n) [] = refl
any-parts p (suc n) (row ∷ rows) = grind (arith, nat_tests, any-parts p n rows)

two-in : (rows : List Row) (a b : Cat) (m0 m1 : ℕ) → m0 ≡ mask_of rows 0 a → m1 ≡ mask_of rows 1 b
    → not (eqb (bit_and m0 m1) 0) ≡ list_any (two_admit a b) rows
two-in rows a b m0 m1 e0 e1 = grind (arith, nat_tests, and-masks, any-mask)

pub two-met : (a b : Cat) (m0 m1 n0 n1 : ℕ) → m0 ≡ mask_of (take EARLY productions) 0 a → m1 ≡ mask_of
    (take EARLY productions) 1 b → n0 ≡ mask_of (drop EARLY productions) 0 a → n1 ≡ mask_of (drop EARLY productions) 1 b
    → (not (eqb (bit_and m0 m1) 0) || not (eqb (bit_and n0 n1) 0)) ≡ list_any (two_admit a b) productions
two-met a b m0 m1 n0 n1 e0 e1 f0 f1 = ap (λ x. x || not (eqb (bit_and n0 n1) 0))
    (two-in (take EARLY productions) a b m0 m1 e0 e1) ∙ ap (λ x. list_any (two_admit a b) (take EARLY productions) || x)
    (two-in (drop EARLY productions) a b n0 n1 f0 f1) ∙ any-parts (two_admit a b) EARLY productions

-- no row admits the two: none fits
pub two-none : (a b : Cat) → list_any (two_admit a b) productions ≡ false → (c e : Cat)
    → first_of productions (a ∷ b ∷ c ∷ e ∷ []) ≡ None
two-none a b none c e = no-mask productions (a ∷ b ∷ c ∷ e ∷ []) (sym (masks-fit productions a b c e productions-sound)
    ∙ ap (λ m. bit_and (bit_and m (mask_of productions 2 c)) (mask_of productions 3 e)) zero-two ∙ ap (λ m. bit_and m
    (mask_of productions 3 e)) (and_zero_l (mask_of productions 2 c)) ∙ and_zero_l (mask_of productions 3 e))
  where
    zero-two : bit_and (mask_of productions 0 a) (mask_of productions 1 b) ≡ 0
    zero-two =
        let is : bit_and (mask_of productions 0 a) (mask_of productions 1 b)
        ≡ mask_l (map (two_admit a b) productions) = and-masks (admits 0 a) (admits 1 b) productions in
        is ∙ eqb-true _ _ (not-false _ (any-mask (two_admit a b) productions ∙ none))
