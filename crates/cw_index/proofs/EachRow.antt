-- Each row of the index is one of a name and its entry, and the rows stand in their order.
use Rattle.cw_index.proofs.Terms.{◌≡◌, ℕ, suc, ◌+◌, ◌<◌, ◌==◌, Bool, true, false, Some, List, [], ◌∷◌, All, fold}
use Rattle.cw_index.proofs.Terms.{IsTrue, get_or, slice_get, refl, subst, arith, ne_eqb, AllByRecursion, filter}
use Rattle.cw_index.proofs.Terms.{range_with_len, insert_key, IsTotalOrder, Ordering, Less, on_total, tied_itself}
use Rattle.cw_index.proofs.Terms.{All-cons, All-filter, All-get_or, All-head, All-map, All-nil, All-tail}
use Rattle.cw_index.proofs.Terms.{All-insert_key, Occurrence, SectionRef, sections-ascending, AreAscending, above_all}
use Rattle.cw_index.proofs.Terms.{any_in, mentions, Entry, entry_cmp-total, IndexRow, has_sections, index_rows}
use Rattle.cw_index.proofs.Terms.{is_listed, needs_underline, row, row_cmp, rows_from, with_row}
use Rattle.std.specs.List.Sorted.{IsStrictlySortedBy}
use Rattle.std.proofs.lemmas.List.Kept.{AllPairs-filter}
use Rattle.std.proofs.lemmas.Map.Keys.{IsDistinct-from_apart, Less-from_sorted}
use Rattle.cw_index.specs.Completeness.{RowsAreOfNames, are_of_one_name, occurs}
use Rattle.cw_index.proofs.Completeness.{each-inserted, of-name}
use Rattle.cw_names.specs.Mentions.{any_underlined_in}

-- ## What holds of each row

module _ (os : List Occurrence) (P : IndexRow → Type 0) where
  -- P holds of the row of a name, if it has sections
  abbrev HoldsOfRow : ℕ → Entry → Type 0
  HoldsOfRow name entry = has_sections (row name entry os).sections ≡ true → P (row name entry os)

  each-from : (n : ℕ) (entries : List Entry) → ((k : ℕ) (entry : Entry) → slice_get entries k ≡ Some entry → HoldsOfRow
      (n + k) entry) → All P (rows_from n entries os)
  each-from n [] each = All-nil P
  each-from n (entry ∷ entries) each = by (each-from (n + 1) entries (λ k e is. subst (λ (name : ℕ). HoldsOfRow name e)
      (next k) (each (suc k) e is))) (has_sections (row n entry os).sections) refl
    where
      next : (k : ℕ) → n + suc k ≡ n + 1 + k
      next k = omega arith

      same : n + 0 ≡ n
      same = omega arith

      here : HoldsOfRow n entry
      here = subst (λ (name : ℕ). HoldsOfRow name entry) same (each 0 entry refl)

      by : All P (rows_from (n + 1) entries os) → (t : Bool) → has_sections (row n entry os).sections ≡ t
          → All P (with_row t (row n entry os) (rows_from (n + 1) entries os))
      by later true is = All-cons P (row n entry os) (rows_from (n + 1) entries os) (here is) later
      by later false is = later

  each-sorted : (rows sorted : List IndexRow) → All P sorted → All P rows → All P (fold
      (insert_key row_cmp) sorted rows)
  each-sorted [] sorted those all = those
  each-sorted (one ∷ rows) sorted those all = each-sorted rows (insert_key row_cmp sorted one)
      (All-insert_key row_cmp one P sorted those (All-head P one rows all)) (All-tail P one rows all)

  -- What holds of the row of each name that has sections holds of each row of the index.
  each-row : (names : List Entry) → ((name : ℕ) (entry : Entry) → slice_get names name ≡ Some entry → HoldsOfRow name
      entry) → All P (index_rows names os)
  each-row names each = grind (arith, each-sorted, each-from)

-- ## The sections of a row

row-ascending : (name : ℕ) (entry : Entry) (os : List Occurrence) → AreAscending (row name entry os).sections
row-ascending name entry os =
    AllPairs-filter (λ (m later : SectionRef). m.section < later.section) (is_listed (needs_underline name entry))
    (mentions name os) (sections-ascending (filter (λ (o : Occurrence). o.name.index == name) os))

-- whether a section is underlined just where the name is, in one of its occurrences
abbrev AsOccurring : ℕ → List Occurrence → SectionRef → Type 0
AsOccurring name os m = m.underlined ≡ occurs true name m.section os

row-underlined : (name : ℕ) (entry : Entry) (os : List Occurrence)
    → All (AsOccurring name os) (row name entry os).sections
row-underlined name entry os = All-filter (is_listed (needs_underline name entry)) (AsOccurring name os) (mentions name
    os) (All-map (AsOccurring name os) (λ section.
    record { section = section; underlined = any_underlined_in own section })
    (filter (any_in own) (range_with_len 0 (above_all own)))
    (λ k d within. of-name true name (get_or (filter (any_in own) (range_with_len 0 (above_all own))) k d) os))
  where
    own : List Occurrence
    own = filter (λ (o : Occurrence). o.name.index == name) os

-- ## Their order

module _ {X : Type 0} (order : X → X → Ordering) (total : IsTotalOrder order) where
  -- what is behind one that is behind k is behind k
  all-behind : (k x : X) (xs : List X) → order k x ≡ Less → AllByRecursion (λ (y : X). order x y ≡ Less) xs
      → AllByRecursion (λ (y : X). order k y ≡ Less) xs
  all-behind k x [] less behind = tt
  all-behind k x (y ∷ ys) less behind = (total.trans k x y less behind.0, all-behind k x ys less behind.1)

  sorted-inserted : (xs : List X) (k : X) → IsStrictlySortedBy order xs
      → IsStrictlySortedBy order (insert_key order xs k)
  unfolding IsStrictlySortedBy
  sorted-inserted [] k sorted = (tt, tt)
  sorted-inserted (x ∷ xs) k sorted = grind (arith, sorted-inserted xs k sorted.1, all-behind, each-inserted)

  all-sorted : (xs sorted : List X) → IsStrictlySortedBy order sorted
      → IsStrictlySortedBy order (fold (insert_key order) sorted xs)
  all-sorted [] sorted is = is
  all-sorted (x ∷ xs) sorted is = all-sorted xs (insert_key order sorted x) (sorted-inserted sorted x is)

none-sorted : {X : Type 0} (order : X → X → Ordering) → IsStrictlySortedBy order []
unfolding IsStrictlySortedBy
none-sorted order = tt

row_cmp-total : IsTotalOrder row_cmp
row_cmp-total = on_total (λ (row : IndexRow). row.entry) entry_cmp-total

-- Of one name there is one entry, so rows that stand apart are of two names.
names-differ : (names : List Entry) (first second : IndexRow) → slice_get names first.name
    ≡ Some first.entry → slice_get
    names second.name ≡ Some second.entry → row_cmp first second ≡ Less → are_of_one_name first second ≡ false
names-differ names first second here there less = grind (arith, ne_eqb, slice_get, tied_itself, entry_cmp-total)

-- ## The law

pub rows-of-names : RowsAreOfNames
rows-of-names names os = record {
  entries = entries;
  once = IsDistinct-from_apart are_of_one_name rows (λ i j d before within. names-differ names (get_or rows i d)
      (get_or rows j d) (All-get_or HasEntry rows i d (omega arith) entries)
      (All-get_or HasEntry rows j d within entries) (Less-from_sorted row_cmp rows i j d order before within));
  order = order;
  some = each-row os (λ (r : IndexRow). IsTrue (has_sections r.sections)) names (λ name entry is has. has);
  ascending = each-row os (λ (r : IndexRow). AreAscending r.sections) names
      (λ name entry is has. row-ascending name entry os);
  underlined = each-row os (λ (r : IndexRow). All (AsOccurring r.name os) r.sections) names
      (λ name entry is has. row-underlined name entry os);
}
  where
    rows : List IndexRow
    rows = index_rows names os

    HasEntry : IndexRow → Type 0
    HasEntry r = slice_get names r.name ≡ Some r.entry

    entries : All HasEntry rows
    entries = each-row os HasEntry names (λ name entry is has. is)

    order : IsStrictlySortedBy row_cmp rows
    order = all-sorted row_cmp row_cmp-total (rows_from 0 names os) [] (none-sorted row_cmp)
