-- The rows of the names are entered one after another.
use Rattle.cw_index.proofs.Terms.{◌≡◌, ℕ, ◌+◌, Bool, true, refl, ap, ◌∙◌, List, [], ◌∷◌, All, Some, drop, map, fold}
use Rattle.cw_index.proofs.Terms.{arith, slice_get, drop_more, get_or_from_slice_get, slice_get_within, All-insert_key}
use Rattle.cw_index.proofs.Terms.{insert_key, Ordering, match_ordering, on, Occurrence, Entry, Heading, entry_cmp}
use Rattle.cw_index.proofs.Terms.{IsNamed, entered, entered_by, entry_of, row_of, IndexRow, has_sections, row, row_cmp}
use Rattle.cw_index.proofs.Terms.{rows_from, with_row}

-- What keys are mapped to is in the same order.
inserted-by : {X Y : Type 0} (f : X → Y) (o : Ordering) (k x : X) (xs ys : List X) → map f (match_ordering o
    (k ∷ x ∷ xs) (x ∷ xs) (x ∷ ys)) ≡ match_ordering o (f k ∷ f x ∷ map f xs) (f x ∷ map f xs) (f x ∷ map f ys)
inserted-by f o k x xs ys = grind arith

pub inserted : {X Y : Type 0} (f : X → Y) (order : Y → Y → Ordering) (xs : List X) (k : X)
    → map f (insert_key (on f order) xs k) ≡ insert_key order (map f xs) (f k)
inserted f order [] k = refl
inserted f order (x ∷ xs) k = grind (arith, inserted f order xs k, inserted-by)

-- The headings so far, with the rows that are still to come, make the index.
abbrev pub with_later : ℕ → List Entry → List Occurrence → List IndexRow → List IndexRow
with_later name later occurrences rows = fold (insert_key row_cmp) rows (rows_from name later occurrences)

later-by : (t : Bool) (r : IndexRow) (rows later : List IndexRow)
    → fold (insert_key row_cmp) rows (with_row t r later) ≡ fold (insert_key row_cmp) (entered_by t r rows) later
later-by t r rows later = grind arith

pub later-next : (name : ℕ) (entry : Entry) (later : List Entry) (occurrences : List Occurrence) (rows : List IndexRow)
    → with_later name (entry ∷ later) occurrences rows
    ≡ with_later (name + 1) later occurrences (entered (row name entry occurrences) rows)
later-next name entry later occurrences rows = grind (arith, later-by)

pub later-step : (names : List Entry) (occurrences : List Occurrence) (rows rows' : List IndexRow) (i : ℕ) (h : Heading)
    → drop i names ≡ entry_of h ∷ drop (i + 1) names
    → row_of h ≡ row i (entry_of h) occurrences → rows' ≡ entered (row_of h) rows
    → with_later (i + 1) (drop (i + 1) names) occurrences rows' ≡ with_later i (drop i names) occurrences rows
later-step names occurrences rows rows' i h here is more = grind (arith, later-next)

-- a heading that has sections, and one that has none
pub entered-listed : (h : Heading) (old new : List Heading) → has_sections (row_of h).sections ≡ true
    → new ≡ insert_key (on entry_of entry_cmp) old h → map row_of new ≡ entered (row_of h) (map row_of old)
entered-listed h old new listed is = grind (arith, inserted row_of row_cmp old h)

pub named-more : (names : List Entry) (h : Heading) (old new : List Heading) → new
    ≡ insert_key (on entry_of entry_cmp) old h → All (IsNamed names) old → IsNamed names h → All (IsNamed names) new
named-more names h old new is all one = rw is (All-insert_key (on entry_of entry_cmp) h (IsNamed names) old all one)

pub drop-at : {X : Type 0} (xs : List X) (i : ℕ) (x : X) → slice_get xs i ≡ Some x → drop i xs ≡ x ∷ drop (i + 1) xs
drop-at xs i x here = drop_more xs i x (slice_get_within xs i x here)
    ∙ ap (λ y. y ∷ drop (i + 1) xs) (get_or_from_slice_get xs i x x here)
