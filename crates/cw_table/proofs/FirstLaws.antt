-- Laws of the first row that fits.
use Rattle.cw_table.proofs.Terms.{◌≡◌, ◌≤◌, ◌∙◌, sym, ℕ, zero, suc, Bool, true, false, List, [], ◌∷◌, length, Some}
use Rattle.cw_table.proofs.Terms.{refl, arith, length-take-le, list_all, nat_tests, Cat, CatSet, both-left, both-right}
use Rattle.cw_table.proofs.Terms.{Row, all_hold, first_of, row_fits, seen, window_of, tests_of, IsSound, row_is_sound}
use Rattle.cw_table.proofs.Soundness.{sound-row}

pub first-here : (row : Row) (rows : List Row) (cats : List Cat) → row_fits row cats ≡ true → first_of (row ∷ rows) cats
    ≡ Some row
first-here row rows cats h = rw (h, first_of) refl

pub first-behind : (row : Row) (rows : List Row) (cats : List Cat) → row_fits row cats ≡ false
    → first_of (row ∷ rows) cats ≡ first_of rows cats
first-behind row rows cats h = rw (h, first_of) refl

-- so many tests are decided by so many categories
hold-seen : (tests : List CatSet) (count : ℕ) (cats : List Cat) → length tests ≤ count
    → all_hold tests (seen count cats) ≡ all_hold tests cats
hold-seen [] count cats h = refl
hold-seen (test ∷ tests) zero cats h = absurd (omega arith)
hold-seen (test ∷ tests) (suc count) [] h = grind (arith, nat_tests, hold-seen tests count)
hold-seen (test ∷ tests) (suc count) (cat ∷ cats) h = grind (arith, nat_tests, hold-seen tests count cats (omega arith))

pub length-tests_of : (row : Row) → IsSound row → length (tests_of row) ≡ row.test_count
length-tests_of row sound = length-take-le row.test_count row.tests sound.counted_tests

-- the window decides whether a row fits, and so which row is the first
pub fits-window : (row : Row) (cats : List Cat) → IsSound row → row_fits row (window_of cats) ≡ row_fits row cats
fits-window row cats sound = hold-seen (tests_of row) 4 cats
    (omega (arith, length-tests_of row sound, sound.four_tests))

pub first-window : (rows : List Row) (cats : List Cat) → list_all row_is_sound rows ≡ true
    → first_of rows (window_of cats) ≡ first_of rows cats
first-window [] cats h = refl
first-window (row ∷ rows) cats h = go (row_fits row cats) refl (first-window rows cats (both-right _ _ h))
  where
    same : row_fits row (window_of cats) ≡ row_fits row cats
    same = fits-window row cats (sound-row row (both-left _ _ h))

    go : (b : Bool) → row_fits row cats ≡ b → first_of rows (window_of cats) ≡ first_of rows cats
        → first_of (row ∷ rows) (window_of cats) ≡ first_of (row ∷ rows) cats
    go true e rest = first-here row rows (window_of cats) (same ∙ e) ∙ sym (first-here row rows cats e)
    go false e rest = first-behind row rows (window_of cats) (same ∙ e) ∙ rest ∙ sym (first-behind row rows cats e)
