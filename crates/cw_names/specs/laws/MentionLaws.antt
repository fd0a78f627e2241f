-- Laws of the sections of occurrences: which are there, and that they ascend.
use Rattle.std.proofs.Common.{◌≡◌, ℕ, zero, suc, ◌+◌, max, ◌<◌, ◌≤◌, ◌==◌, ◌&&◌, ◌||◌, Bool, true, false, List, [], ◌∷◌}
use Rattle.std.proofs.Common.{length, slice_index_or, fold, map, cond, refl, sym, ap, subst, ◌∙◌, inl, inr, arith}
use Rattle.std.specs.List.{filter, list_any, range_with_len}
use Rattle.std.proofs.lemmas.Bool.{eq-eqb}
use Rattle.std.proofs.lemmas.List.Kept.{AllPairs-cons}
use Rattle.cw_base.proofs.NumberLaws.{three, apart}
use Rattle.cw_base.proofs.TestLaws.{or-false}
use Rattle.cw_names.specs.declared.xrefs.Occurrence.{Occurrence}
use Rattle.cw_names.specs.declared.xrefs.SectionRef.{SectionRef}
use Rattle.cw_names.specs.Mentions.{AreAscending, above_all, any_in, any_underlined_in, is_of_section, sections_in}

-- ## Sections that pass a test, from one number on, so many numbers

abbrev pub with_first : Bool → Bool → ℕ → List SectionRef → List SectionRef
with_first true underlined section ms = record { section = section; underlined = underlined } ∷ ms
with_first false underlined section ms = ms

abbrev pub picked : (ℕ → Bool) → (ℕ → Bool) → ℕ → ℕ → List SectionRef
picked test underlined a zero = []
picked test underlined a (suc n) = with_first (test a) (underlined a) a (picked test underlined (a + 1) n)

module _ (test underlined : ℕ → Bool) where
  pub picked-is : (a n : ℕ) → map (λ section. record { section = section; underlined = underlined section })
      (filter test (range_with_len a n)) ≡ picked test underlined a n
  picked-is a zero = refl
  picked-is a (suc n) = by (test a) (picked-is (a + 1) n)
    where
      rest : List ℕ
      rest = filter test (range_with_len (a + 1) n)

      by : (t : Bool) → map (λ section. record { section = section; underlined = underlined section }) rest
          ≡ picked test underlined (a + 1) n
          → map (λ section. record { section = section; underlined = underlined section }) (cond t (a ∷ rest) rest)
          ≡ with_first t (underlined a) a (picked test underlined (a + 1) n)
      by true more = ap (λ ms. record { section = a; underlined = underlined a } ∷ ms) more
      by false more = more

  -- where none passes from a number on, so many more numbers are all the same
  pub picked-more : (a n m : ℕ) → n ≤ m → ((k : ℕ) → a + n ≤ k → test k ≡ false)
      → picked test underlined a m ≡ picked test underlined a n
  picked-more a zero zero h none = refl
  picked-more a zero (suc m) h none =
      ap (λ t. with_first t (underlined a) a (picked test underlined (a + 1) m)) (none a (omega arith))
      ∙ picked-more (a + 1) zero m (omega arith) (λ k low. none k (omega arith))
  picked-more a (suc n) zero h none = absurd (omega arith)
  picked-more a (suc n) (suc m) h none =
      ap (with_first (test a) (underlined a) a)
      (picked-more (a + 1) n m (omega arith) (λ k low. none k (omega arith)))

  -- ## What is there

  module _ (section : ℕ) (shown : SectionRef → Bool) where
    abbrev is_shown : SectionRef → Bool
    is_shown m = m.section == section && shown m

    none-behind : (a n : ℕ) → section < a → list_any is_shown (picked test underlined a n) ≡ false
    none-behind a zero less = refl
    none-behind a (suc n) less = by (test a) (none-behind (a + 1) n (omega arith))
      where
        by : (t : Bool) → list_any is_shown (picked test underlined (a + 1) n) ≡ false
            → list_any is_shown (with_first t (underlined a) a (picked test underlined (a + 1) n)) ≡ false
        by true more = ap (λ b. (b && shown (record { section = a; underlined = underlined a }))
            || list_any is_shown (picked test underlined (a + 1) n)) (apart a section (λ same. omega arith)) ∙ more
        by false more = more

    abbrev wanted : Bool
    wanted = test section && shown (record { section = section; underlined = underlined section })

    here : (a n : ℕ) → a ≡ section → list_any is_shown (picked test underlined a (suc n)) ≡ wanted
    here a n same =
        by (test a) (none-behind (a + 1) n (omega arith))
        ∙ ap (λ (k : ℕ). test k && shown (record { section = k; underlined = underlined k })) same
      where
        one : Bool
        one = shown (record { section = a; underlined = underlined a })

        by : (t : Bool) → list_any is_shown (picked test underlined (a + 1) n) ≡ false
            → list_any is_shown (with_first t (underlined a) a (picked test underlined (a + 1) n)) ≡ (t && one)
        by true more = ap (λ b. (b && one) || list_any is_shown (picked test underlined (a + 1) n))
            (eq-eqb a section same)
            ∙ ap (λ b. one || b) more ∙ or-false one
        by false more = more

    pub any-picked : (a n : ℕ) → a ≤ section → section < a + n
        → list_any is_shown (picked test underlined a n) ≡ wanted
    any-picked a zero low high = absurd (omega arith)
    any-picked a (suc n) low high = elim (three a section) [
      | inl less ↦ by (test a) less (any-picked (a + 1) n (omega arith) (omega arith))
      | inr other ↦ elim other [ inl same ↦ here a n same | inr less ↦ absurd (omega arith) ]
    ]
      where
        by : (t : Bool) → a < section → list_any is_shown (picked test underlined (a + 1) n) ≡ wanted
            → list_any is_shown (with_first t (underlined a) a (picked test underlined (a + 1) n)) ≡ wanted
        by true less more = ap (λ b. (b && shown (record { section = a; underlined = underlined a }))
            || list_any is_shown (picked test underlined (a + 1) n)) (apart a section (λ same. omega arith)) ∙ more
        by false less more = more

-- ## How they lie

-- all sections of a list are above a number
abbrev pub Above : ℕ → List SectionRef → Type 0
Above low ms = (k : ℕ) (d : SectionRef) → k < length ms → low < (slice_index_or ms k d).section

above-cons : (low : ℕ) (m : SectionRef) (ms : List SectionRef) → low < m.section → Above low ms
    → (k : ℕ) (d : SectionRef) → k < length (m ∷ ms) → low < (slice_index_or (m ∷ ms) k d).section
above-cons low m ms here rest zero d h = here
above-cons low m ms here rest (suc k) d h = rest k d (omega arith)

module _ (test underlined : ℕ → Bool) where
  pub picked-above : (low a n : ℕ) → low < a → Above low (picked test underlined a n)
  picked-above low a zero less = λ k d h. absurd (omega arith)
  picked-above low a (suc n) less = by (test a) (picked-above low (a + 1) n (omega arith))
    where
      by : (t : Bool) → Above low (picked test underlined (a + 1) n)
          → Above low (with_first t (underlined a) a (picked test underlined (a + 1) n))
      by true more = above-cons low (record { section = a; underlined = underlined a })
          (picked test underlined (a + 1) n) less more
      by false more = more

  pub picked-ascending : (a n : ℕ) → AreAscending (picked test underlined a n)
  picked-ascending a zero = λ i j d before low. absurd (omega arith)
  picked-ascending a (suc n) = by (test a) (picked-ascending (a + 1) n)
    where
      by : (t : Bool) → AreAscending (picked test underlined (a + 1) n)
          → AreAscending (with_first t (underlined a) a (picked test underlined (a + 1) n))
      by true more = AllPairs-cons (λ (x y : SectionRef). x.section < y.section)
          (record { section = a; underlined = underlined a }) (picked test underlined (a + 1) n)
          (picked-above a (a + 1) n (omega arith)) more
      by false more = more

-- ## The sections of occurrences

pub sections-picked : (occurrences : List Occurrence)
    → sections_in occurrences ≡ picked (any_in occurrences) (any_underlined_in occurrences) 0 (above_all occurrences)
sections-picked occurrences =
    picked-is (any_in occurrences) (any_underlined_in occurrences) 0 (above_all occurrences)

most-kept : (most : ℕ) (occurrences : List Occurrence)
    → most ≤ fold (λ (most : ℕ) (o : Occurrence). max most (o.section + 1)) most occurrences
most-kept most [] = omega arith
most-kept most (o ∷ occurrences) =
    let more = most-kept (max most (o.section + 1)) occurrences in omega (arith, more)

none-from : (most section : ℕ) (occurrences : List Occurrence)
    → fold (λ (most : ℕ) (o : Occurrence). max most (o.section + 1)) most occurrences ≤ section
    → list_any (is_of_section section) occurrences ≡ false
none-from most section [] h = refl
none-from most section (o ∷ occurrences) h =
    let more = most-kept (max most (o.section + 1)) occurrences in
    ap (λ b. b || list_any (is_of_section section) occurrences) (apart o.section section (λ same. omega (arith, more)))
    ∙ none-from (max most (o.section + 1)) section occurrences h

-- no occurrence is in a section from there on
pub none-above : (section : ℕ) (occurrences : List Occurrence) → above_all occurrences ≤ section
    → any_in occurrences section ≡ false
none-above section occurrences h = none-from 0 section occurrences h

-- A section is there, and shown, exactly where an occurrence is in it, and it is shown as the occurrences mention it.
pub sections-at : (section : ℕ) (shown : SectionRef → Bool) (occurrences : List Occurrence)
    → list_any (λ (m : SectionRef). m.section == section && shown m) (sections_in occurrences)
    ≡ (any_in occurrences section && shown (record
    { section = section; underlined = any_underlined_in occurrences section }))
sections-at section shown occurrences =
    ap (list_any (λ (m : SectionRef). m.section == section && shown m))
    (sections-picked occurrences
    ∙ sym (picked-more (any_in occurrences) (any_underlined_in occurrences) 0 (above_all occurrences)
    (max (above_all occurrences) (section + 1)) (omega arith)
    (λ k low. none-above k occurrences (omega (arith, low)))))
    ∙ any-picked (any_in occurrences) (any_underlined_in occurrences) section shown 0
    (max (above_all occurrences) (section + 1)) (omega arith) (omega arith)

pub sections-ascending : (occurrences : List Occurrence) → AreAscending (sections_in occurrences)
sections-ascending occurrences =
    subst AreAscending (sym (sections-picked occurrences))
    (picked-ascending (any_in occurrences) (any_underlined_in occurrences) 0 (above_all occurrences))
