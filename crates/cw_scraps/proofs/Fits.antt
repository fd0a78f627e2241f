-- What a sound row that fits reads of a line is there.
use Rattle.cw_scraps.proofs.Terms.{◌≡◌, ℕ, suc, ◌+◌, ◌<◌, ◌≤◌, Bool, true, false, List, [], ◌∷◌, length, drop, get_or}
use Rattle.cw_scraps.proofs.Terms.{Some, inl, inr, refl, sym, ap, ◌∙◌, arith, get_or_past, length-drop, length-take}
use Rattle.cw_scraps.proofs.Terms.{get_or-drop, cases_lt, Flags, Cat, End, Row, SameAs, row_fits, pieces_for, test}
use Rattle.cw_scraps.proofs.Terms.{tests_of, IsSound, row_is_sound, scraps_in, numbers_from, alone, takes_other}
use Rattle.cw_scraps.proofs.Terms.{length-tests_of, hold-at, room, alone-at, pieces-whole, LineEntry, no_entry}
use Rattle.cw_scraps.proofs.Terms.{entry_cats, IsRun, pieces_at}
use Rattle.cw_base.specs.Category.{in_set}
use Rattle.cw_table.proofs.Soundness.{sound-row}

pub length-entry_cats : (entries : List LineEntry) → length (entry_cats entries) ≡ length entries
length-entry_cats [] = refl
length-entry_cats (e ∷ entries) = ap suc (length-entry_cats entries)

-- a test that doesn't admit End was passed by a scrap
there : (row : Row) (cats : List Cat) (k : ℕ) → IsSound row → row_fits row cats ≡ true → k < row.test_count
    → in_set (test row k) End ≡ false → k < length cats
there row cats k sound fits tested not_end = elim (cases_lt k (length cats)) [
  | inl h ↦ h
  | inr h ↦
      let held : in_set (test row k) (get_or cats k End) ≡ true =
      hold-at (tests_of row) cats k fits (omega (arith, length-tests_of row sound)) in
      absurd (differ (sym not_end ∙ (ap (in_set (test row k)) (sym (get_or_past cats k End h)) ∙ held)))
]
  where
    differ : ◌≡◌ {A = Bool} false true → ⊥
    differ e = cc

-- a row has at most twelve pieces
pieces-few : (row : Row) → IsSound row → (b : Bool) → length (pieces_for b row) ≤ 12
pieces-few row s b = grind (arith, length-take)

pub record FitsAt (flags : Flags) (row : Row) (entries : List LineEntry) : Type 0 where
  pub is_sound : IsSound row
  pub some : 1 ≤ row.replaced
  pub inside : row.offset + row.replaced ≤ length entries
  pub run : scraps_in (pieces_at flags row entries) ≡ numbers_from row.offset row.replaced
  pub few : length (pieces_at flags row entries) ≤ 12
  pub result_there : (k : ℕ) → row.result ≡ SameAs k → k < length entries
  pub underline_there : (k : ℕ) → row.action.underline ≡ Some k → k < length entries
  pub reserve_there : (k : ℕ) → row.action.reserve ≡ Some k → k < length entries
  pub bold_there : (k : ℕ) → row.action.bold ≡ Some k → k < length entries
  pub kept_at : (k : ℕ) → alone row.replaced (pieces_at flags row entries) ≡ Some k
      → (row.replaced ≡ 1) × (k ≡ row.offset)

pub fits-at : (flags : Flags) (row : Row) (entries : List LineEntry) → row_is_sound row ≡ true
    → row_fits row (entry_cats entries) ≡ true → FitsAt flags row entries
fits-at flags row entries sound fits =
    let s : IsSound row = sound-row row sound in
    let n : length (entry_cats entries) ≡ length entries = length-entry_cats entries in
    let within : row.offset + row.replaced ≤ length (entry_cats entries) = room row (entry_cats entries) s fits in
    record {
      is_sound = s;
      some = s.some_replaced;
      inside = omega arith;
      run = pieces-whole flags row (entry_cats entries) s;
      few = pieces-few row s (takes_other flags row.action.choice (entry_cats entries));
      result_there = λ k e. let h : k < length (entry_cats entries) =
          there row (entry_cats entries) k s fits (s.same_as_tested k e) (s.same_as_not_end k e) in omega arith;
      underline_there = λ k e. let h : k < length (entry_cats entries) =
          there row (entry_cats entries) k s fits (s.underline_tested k e) (s.underline_not_end k e) in omega arith;
      reserve_there = λ k e. let h : k < row.offset + row.replaced = s.reserve_below k e in omega arith;
      bold_there = λ k e. let h : k < row.offset + row.replaced = s.bold_below k e in omega arith;
      kept_at = λ k e. alone-at flags row (entry_cats entries) k s e;
    }

pub run-at : (flags : Flags) (row : Row) (entries : List LineEntry) → FitsAt flags row entries
    → IsRun (pieces_at flags row entries) (length entries)
run-at flags row entries f = record { first = row.offset; more = row.replaced; run = f.run; within = f.inside }

pub behind : (line : List LineEntry) (place k : ℕ) → k < length (drop place line) → place + k < length line
behind line place k h = omega (arith, length-drop place line)

pub kept-there : (flags : Flags) (row : Row) (entries : List LineEntry) (k : ℕ) → FitsAt flags row entries
    → alone row.replaced (pieces_at flags row entries) ≡ Some k → k < length entries
kept-there flags row entries k f e = grind arith

pub place-inside : (flags : Flags) (row : Row) (line : List LineEntry) (place : ℕ) → FitsAt flags row (drop place line)
    → place < length line
place-inside flags row line place f = grind (arith, length-drop)

pub kept-is : (line : List LineEntry) (place k : ℕ) (cat cat' : Cat) (entry : LineEntry) → cat ≡ cat'
    → entry ≡ get_or line (place + k) no_entry
    → ◌≡◌ {A = LineEntry} (record { cat = cat; list = entry.list; left = entry.left; right = entry.right })
    (record {
      cat = cat';
      list = (get_or (drop place line) k no_entry).list;
      left = (get_or (drop place line) k no_entry).left;
      right = (get_or (drop place line) k no_entry).right;
    })
kept-is line place k cat cat' entry e f = grind (arith, get_or-drop)
