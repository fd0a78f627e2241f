-- Each row of the index is that of its name.
use Rattle.cw_mini.proofs.Terms.{◌≡◌, ℕ, zero, suc, ◌+◌, Bool, true, false, List, [], ◌∷◌, All, Some, ap, arith, drop}
use Rattle.cw_mini.proofs.Terms.{fold, refl, subst, slice_get, All-cons, All-head, All-nil, All-tail, Occurrence, Entry}
use Rattle.cw_mini.proofs.Terms.{IndexRow, has_sections, index_rows, row, row_cmp, rows_from, with_row}
use Rattle.std.proofs.lemmas.Map.Views.{All-insert_key}
use Rattle.std.specs.{BTreeSet.insert_key, declared.cmp.Ordering.Ordering}

pub record IsRowOf (names : List Entry) (occurrences : List Occurrence) (r : IndexRow) : Type 0 where
  pub there : slice_get names r.name ≡ Some r.entry
  pub is : r ≡ row r.name r.entry occurrences

more : (name : ℕ) → suc name ≡ name + 1
more name = grind arith

there-at : (names : List Entry) (name : ℕ) (entry : Entry) (later : List Entry) → drop name names ≡ entry ∷ later
    → slice_get names name ≡ Some entry
there-at [] zero entry later e = absurd cc
there-at [] (suc name) entry later e = absurd cc
there-at (x ∷ names) zero entry later e = ap (λ (l : List Entry). slice_get l 0) e
there-at (x ∷ names) (suc name) entry later e = there-at names name entry later e

later-at : (names : List Entry) (name : ℕ) (entry : Entry) (later : List Entry) → drop name names ≡ entry ∷ later
    → drop (suc name) names ≡ later
later-at [] zero entry later e = absurd cc
later-at [] (suc name) entry later e = absurd cc
later-at (x ∷ names) zero entry later e = ap (drop 1) e
later-at (x ∷ names) (suc name) entry later e = later-at names name entry later e

rows-named : (names : List Entry) (occurrences : List Occurrence) (name : ℕ) (later : List Entry)
    → drop name names ≡ later → All (IsRowOf names occurrences) (rows_from name later occurrences)
rows-named names occurrences name [] e = All-nil (IsRowOf names occurrences)
rows-named names occurrences name (entry ∷ later) e = by (has_sections (row name entry occurrences).sections)
    (rows-named names occurrences (name + 1) later
    (subst (λ n. drop n names ≡ later) (more name) (later-at names name entry later e)))
  where
    rest : List IndexRow
    rest = rows_from (name + 1) later occurrences

    by : (t : Bool) → All (IsRowOf names occurrences) rest
        → All (IsRowOf names occurrences) (with_row t (row name entry occurrences) rest)
    by true all = All-cons (IsRowOf names occurrences) (row name entry occurrences) rest
        (record { there = there-at names name entry later e; is = refl }) all
    by false all = all

sorted-all : {X : Type 0} (P : X → Type 0) (order : X → X → Ordering) (kept xs : List X) → All P kept → All P xs
    → All P (fold (insert_key order) kept xs)
sorted-all P order kept [] all later = all
sorted-all P order kept (x ∷ xs) all later = sorted-all P order (insert_key order kept x) xs
    (All-insert_key order x P kept all (All-head P x xs later)) (All-tail P x xs later)

pub index-named : (names : List Entry) (occurrences : List Occurrence)
    → All (IsRowOf names occurrences) (index_rows names occurrences)
index-named names occurrences = sorted-all (IsRowOf names occurrences) row_cmp [] (rows_from 0 names occurrences)
    (All-nil (IsRowOf names occurrences)) (rows-named names occurrences 0 names refl)
