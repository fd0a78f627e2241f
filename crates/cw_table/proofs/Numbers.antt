-- Rows that are numbered one after the other.
use Rattle.cw_table.proofs.Terms.{◌≡◌, ◌<◌, ◌≤◌, ◌+◌, ◌-◌, ◌∙◌, sym, ap, ℕ, zero, suc, List, [], ◌∷◌, length, get_or}
use Rattle.cw_table.proofs.Terms.{Some, Bool, true, false, eqb, refl, arith, eq-eqb, eqb-true, ne_eqb, slice_get}
use Rattle.cw_table.proofs.Terms.{each-of, both-left, both-right, Cat, Row, first_of, row_fits, productions}
use Rattle.cw_table.proofs.Terms.{row_numbered, are_numbered, row_is_sound, slice_get-get_or, nat_tests}
use Rattle.cw_table.proofs.FirstLaws.{first-behind, first-here}
use Rattle.cw_table.proofs.Examples.{productions-numbered, productions-sound}

here : (r : Row) (rows : List Row) (n : ℕ) → eqb r.number.number n ≡ true → row_numbered (r ∷ rows) n ≡ Some r
here r rows n e = rw (e, row_numbered) refl

behind : (r : Row) (rows : List Row) (n : ℕ) → eqb r.number.number n ≡ false → row_numbered (r ∷ rows) n
    ≡ row_numbered rows n
behind r rows n e = rw (e, row_numbered) refl

-- the row of a number stands as far behind the first as its number is above the first one's
pub numbered-at : (rows : List Row) (first i n : ℕ) (row : Row) → n ≡ first + i → are_numbered first rows ≡ true
    → slice_get rows i ≡ Some row → row_numbered rows n ≡ Some row
numbered-at [] first i n row e numbered at = absurd cc
numbered-at (r ∷ rows) first zero n row e numbered at = grind (arith, nat_tests, eqb-true, both-left, here, eq-eqb)
numbered-at (r ∷ rows) first (suc i) n row e numbered at =
    let is : r.number.number ≡ first = eqb-true _ _ (both-left _ _ numbered) in
    behind r rows n (ne_eqb _ _ (omega arith))
    ∙ numbered-at rows (suc first) i n row (omega arith) (both-right _ _ numbered) at

-- the same in a table, whose rows are the productions
pub numbered-row : (rows now : List Row) (n : ℕ) (d : Row) → rows ≡ now → rows ≡ productions → 1 ≤ n → n ≤ length rows
    → row_numbered now n ≡ Some (get_or rows (n - 1) d)
numbered-row rows now n d view is from to =
    grind (arith, nat_tests, numbered-at, productions-numbered, slice_get-get_or)

-- each of its rows is sound
pub numbered-sound : (rows : List Row) (i : ℕ) (d : Row) → rows ≡ productions → i < length rows
    → row_is_sound (get_or rows i d) ≡ true
numbered-sound rows i d is lt = grind (arith, nat_tests, each-of, productions-sound, slice_get-get_or)

-- the first row that fits is the row of its number
pub first-numbered : (rows : List Row) (first : ℕ) (cats : List Cat) (row : Row) → are_numbered first rows ≡ true
    → first_of rows cats ≡ Some row → (first ≤ row.number.number) × (row_numbered rows row.number.number ≡ Some row)
first-numbered [] first cats row numbered e = absurd cc
first-numbered (r ∷ rows) first cats row numbered e =
    go (row_fits r cats) refl (λ f. first-numbered rows (suc first) cats row (both-right _ _ numbered) f)
  where
    is : r.number.number ≡ first
    is = eqb-true _ _ (both-left _ _ numbered)

    go : (b : Bool) → row_fits r cats ≡ b → (first_of rows cats ≡ Some row → (suc first ≤ row.number.number)
        × (row_numbered rows row.number.number ≡ Some row)) → (first ≤ row.number.number)
        × (row_numbered (r ∷ rows) row.number.number ≡ Some row)
    go true f rest =
        let same : r ≡ row = let one : Some r ≡ Some row = sym (first-here r rows cats f) ∙ e in cc in
        let number : r.number.number ≡ row.number.number = ap (λ x. x.number.number) same in
        (omega (arith, is), here r rows row.number.number (eq-eqb _ _ number) ∙ ap Some same)
    go false f rest =
        let later = rest (sym (first-behind r rows cats f) ∙ e) in
        let above : suc first ≤ row.number.number = later.0 in
        let mine : r.number.number ≡ first = is in
        (omega arith, behind r rows row.number.number (ne_eqb _ _ (omega arith)) ∙ later.1)
