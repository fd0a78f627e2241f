-- The index is complete.
use Rattle.cw_index.proofs.Terms.{◌||◌, ◌≡◌, ◌≢◌, ℕ, ◌+◌, ◌<◌, ◌==◌, ◌&&◌, Bool, true, false, nat_eq, refl, sym, ap}
use Rattle.cw_index.proofs.Terms.{◌∙◌, subst, List, [], ◌∷◌, ◌++◌, length, filter, fold, arith, eq-eqb, ne_eqb}
use Rattle.cw_index.proofs.Terms.{true≢false, AllByRecursion, list_any, insert_key, Ordering, Equal, unsigned_ties}
use Rattle.cw_index.proofs.Terms.{is_eq, ordering_reverse, ordering_then, nat_cmp, Occurrence, SectionRef, sections-at}
use Rattle.cw_index.proofs.Terms.{any_in, mentions, AreDistinct, Entry, is_entry, same_kind, or-false, EntryKind}
use Rattle.cw_index.proofs.Terms.{classes_cmp, entry_cmp, entry_kind_place, text_cmp, entry_cmp-total, IndexRow}
use Rattle.cw_index.proofs.Terms.{has_sections, is_listed, listed, needs_underline, row, row_cmp, rows_from, with_row}
use Rattle.std.specs.List.{IsDistinct}
use Rattle.std.specs.Cmp.Lexicographic.{lists_ties, pointwise, slice_cmp}
use Rattle.cw_index.specs.Completeness.{IndexIsComplete, as_mention, is_at, lists, occurs}
use Rattle.cw_names.specs.Mentions.{any_underlined_in}

-- ## Truth values

or-swap : (a b c : Bool) → (a || (b || c)) ≡ (b || (a || c))
or-swap a b c = grind arith

-- ## The sections of a name

-- the occurrences, as they are listed
all-mentions : (only : Bool) (section : ℕ) (os : List Occurrence) → (any_in os section && is_listed only
    (record { section = section; underlined = any_underlined_in os section }))
    ≡ list_any (λ (o : Occurrence). is_at only section (as_mention o)) os
all-mentions true section (o ∷ os) = grind (arith, all-mentions true section os)
all-mentions false section (o ∷ os) = grind (arith, all-mentions false section os)
all-mentions _ _ _ = refl

pub of-name : (only : Bool) (name section : ℕ) (os : List Occurrence) → list_any (λ (o : Occurrence). is_at only section
    (as_mention o)) (filter (λ (o : Occurrence). o.name.index == name) os) ≡ occurs only name section os
of-name only name section [] = refl
of-name only name section (o ∷ os) = grind (arith, of-name only name section os)

in-listed : (only : Bool) (section : ℕ) (ms : List SectionRef)
    → list_any (λ (m : SectionRef). m.section == section) (listed only ms) ≡ list_any (is_at only section) ms
in-listed only section [] = refl
in-listed only section (m ∷ ms) = grind (arith, in-listed only section ms)

pub in-row : (name section : ℕ) (entry : Entry) (os : List Occurrence) → list_any (λ (m : SectionRef). m.section ==
    section) (row name entry os).sections ≡ occurs (needs_underline name entry) name section os
in-row name section entry os = in-listed (needs_underline name entry) section (mentions name os) ∙ sections-at section
    (is_listed (needs_underline name entry)) (filter (λ (o : Occurrence). o.name.index == name) os)
    ∙ all-mentions (needs_underline name entry) section (filter (λ (o : Occurrence). o.name.index == name) os)
    ∙ of-name (needs_underline name entry) name section os

-- ## The rows in their order of names

none-later : (name section n : ℕ) (entries : List Entry) (os : List Occurrence) → name < n
    → list_any (lists name section) (rows_from n entries os) ≡ false
none-later name section n [] os less = refl
none-later name section n (entry ∷ entries) os less =
    grind (arith, none-later name section (n + 1) entries os (omega (arith, less)), ne_eqb)

-- a row without sections lists none
empty : (t : Bool) (section : ℕ) (ms : List SectionRef) → has_sections ms ≡ t → (t && list_any
    (λ (m : SectionRef). m.section == section) ms) ≡ list_any (λ (m : SectionRef). m.section == section) ms
empty t section ms is = grind arith

in-rows : (n section : ℕ) (before after : List Entry) (entry : Entry) (os : List Occurrence)
    → list_any (lists (n + length before) section) (rows_from n (before ++ entry ∷ after) os)
    ≡ occurs (needs_underline (n + length before) entry) (n + length before) section os
in-rows n section [] after entry os = grind (arith, eq-eqb, none-later, or-false, empty, in-row)
in-rows n section (first ∷ before) after entry os = grind (arith, in-rows (n + 1) section before after entry os, ne_eqb)

-- ## Rows that are put in order

abbrev Apart : {X : Type 0} → (X → X → Ordering) → X → X → Type 0
Apart order x k = order k x ≢ Equal

abbrev AreApart : {X : Type 0} → (X → X → Ordering) → List X → Type 0
AreApart order [] = Unit {0}
AreApart order (x ∷ xs) = AllByRecursion (Apart order x) xs × AreApart order xs

module _ {X : Type 0} (order : X → X → Ordering) where
  any-inserted : (test : X → Bool) (xs : List X) (k : X) → AllByRecursion (λ (x : X). Apart order x k) xs
      → list_any test (insert_key order xs k) ≡ (test k || list_any test xs)
  any-inserted test [] k apart = refl
  any-inserted test (x ∷ xs) k apart = grind (arith, any-inserted test xs k apart.1, or-swap)

  pub each-inserted : (P : X → Type 0) (xs : List X) (k : X) → P k → AllByRecursion P xs
      → AllByRecursion P (insert_key order xs k)
  each-inserted P [] k one each = (one, tt)
  each-inserted P (x ∷ xs) k one each = grind (arith, each-inserted P xs k one each.1)

  -- each key that is still to come is apart from those that are in their order
  abbrev AreNew : List X → List X → Type 0
  AreNew sorted keys = AllByRecursion (λ (k : X). AllByRecursion (λ (x : X). Apart order x k) sorted) keys

  new-inserted : (sorted keys : List X) (k : X) → AllByRecursion (Apart order k) keys → AreNew sorted keys
      → AreNew (insert_key order sorted k) keys
  new-inserted sorted [] k apart new = tt
  new-inserted sorted (key ∷ keys) k apart new = grind (arith, new-inserted sorted keys k apart.1 new.1, each-inserted)

  any-sorted : (test : X → Bool) (sorted keys : List X) → AreNew sorted keys → AreApart order keys
      → list_any test (fold (insert_key order) sorted keys) ≡ (list_any test keys || list_any test sorted)
  any-sorted test sorted [] new apart = refl
  any-sorted test sorted (k ∷ keys) new apart = grind (
    arith,
    any-sorted test (insert_key order sorted k) keys (new-inserted sorted keys k apart.0 new.1) apart.1,
    any-inserted,
  )

  none-new : (keys : List X) → AreNew [] keys
  none-new [] = tt
  none-new (k ∷ keys) = (tt, none-new keys)

-- ## Names that differ have rows that differ

both-equal : (a b : Ordering) → is_eq (ordering_then a b) ≡ true → (is_eq a ≡ true) × (is_eq b ≡ true)
both-equal a b is = grind arith

same-kinds : (a b : EntryKind) → is_eq (nat_cmp (entry_kind_place a) (entry_kind_place b)) ≡ true → same_kind a b ≡ true
same-kinds a b is = grind arith

alike : (first entry : Entry) → entry_cmp first entry ≡ Equal → is_entry first.kind first.text entry ≡ true
alike first entry same =
    let parts : (is_eq (text_cmp first.text entry.text) ≡ true) × (is_eq (nat_cmp (entry_kind_place first.kind)
    (entry_kind_place entry.kind)) ≡ true) = both-equal (text_cmp first.text entry.text)
    (nat_cmp (entry_kind_place first.kind) (entry_kind_place entry.kind)) (ap is_eq same) in
    let texts : (is_eq (classes_cmp first.text entry.text) ≡ true) × (is_eq (slice_cmp nat_cmp first.text entry.text)
    ≡ true) = both-equal (classes_cmp first.text entry.text) (slice_cmp nat_cmp first.text entry.text) parts.0 in
    ap (λ t. t && pointwise nat_eq first.text entry.text) (same-kinds first.kind entry.kind parts.1)
    ∙ lists_ties nat_cmp unsigned_ties first.text entry.text ∙ texts.1

first-differ : (first : Entry) (n : ℕ) (entries : List Entry) (os : List Occurrence) (r : IndexRow) → r.entry ≡ first
    → AllByRecursion (λ (other : Entry). is_entry first.kind first.text other ≡ false) entries
    → AllByRecursion (Apart row_cmp r) (rows_from n entries os)
first-differ first n [] os r is all = tt
first-differ first n (entry ∷ entries) os r is all =
    by (first-differ first (n + 1) entries os r is all.1) (has_sections (row n entry os).sections)
  where
    here : Apart row_cmp r (row n entry os)
    here same = true≢false (sym (alike first entry (entry_cmp-total.antisymm first entry
        ∙ ap ordering_reverse (ap (entry_cmp entry) (sym is) ∙ same))) ∙ all.0)

    by : AllByRecursion (Apart row_cmp r) (rows_from (n + 1) entries os)
        → (t : Bool) → AllByRecursion (Apart row_cmp r) (with_row t (row n entry os) (rows_from (n + 1) entries os))
    by later true = (here, later)
    by later false = later

with-row-apart : (n : ℕ) (entry : Entry) (entries : List Entry) (os : List Occurrence) → AllByRecursion (Apart row_cmp
    (row n entry os)) (rows_from (n + 1) entries os) → AreApart row_cmp (rows_from (n + 1) entries os) → (t : Bool)
    → AreApart row_cmp (with_row t (row n entry os) (rows_from (n + 1) entries os))
with-row-apart n entry entries os here later t = grind arith

rows-apart : (n : ℕ) (entries : List Entry) (os : List Occurrence) → AreDistinct entries
    → AreApart row_cmp (rows_from n entries os)
unfolding IsDistinct
rows-apart n [] os distinct = tt
rows-apart n (entry ∷ entries) os distinct =
    with-row-apart n entry entries os (first-differ entry (n + 1) entries os (row n entry os) refl distinct.0)
    (rows-apart (n + 1) entries os distinct.1) (has_sections (row n entry os).sections)

pub index-complete : IndexIsComplete
index-complete before after entry os section distinct =
    let rows : List IndexRow = rows_from 0 (before ++ entry ∷ after) os in
    any-sorted row_cmp (lists (length before) section) [] rows (none-new row_cmp rows)
    (rows-apart 0 (before ++ entry ∷ after) os distinct) ∙ or-false (list_any (lists (length before) section) rows)
    ∙ subst (λ (name : ℕ). list_any (lists name section) rows ≡ occurs (needs_underline name entry) name section os)
    from_zero (in-rows 0 section before after entry os)
  where
    from_zero : 0 + length before ≡ length before
    from_zero = omega arith
