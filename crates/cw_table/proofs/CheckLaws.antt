-- What the code that checks a row needs.
use Rattle.cw_table.proofs.Terms.{◌≡◌, ◌<◌, ◌≤◌, ◌+◌, ◌-◌, ◌∙◌, sym, ap, ℕ, zero, suc, Bool, true, false, not, List, []}
use Rattle.cw_table.proofs.Terms.{◌∷◌, ◌++◌, length, get_or, take, drop, Some, None, refl, arith, ◌&&◌, eqb, eq-eqb}
use Rattle.cw_table.proofs.Terms.{take_all, All, list_all, ne_eqb, drop_more, AllPass-from_list_all, list_all-append}
use Rattle.cw_table.proofs.Terms.{list_all_at, list_all_more, nat_tests, Cat, End, all_cats, in_set, Piece, Row, test}
use Rattle.cw_table.proofs.Terms.{IsSound, counts_parts, lowers, marks_parts, numbers_from, pieces_parts, result_parts}
use Rattle.cw_table.proofs.Terms.{same_numbers, scrap_in, scraps_in, tests_parts, without_end}
use Rattle.cw_table.specs.Sound.{lowers_all, row_is_sound}
use Rattle.cw_table.proofs.{HazardLaws.not-all-numbers, SafeLaws.all-numbers, Soundness.sound-row}

pub all-sound : (rows : List Row) → list_all row_is_sound rows ≡ true → All IsSound rows
all-sound rows h k d lt = sound-row (get_or rows k d) (AllPass-from_list_all row_is_sound rows h k d lt)

pub lowers-more : (row : Row) (i : ℕ) (d : Cat) → i < length all_cats → list_all (lowers row) (take i all_cats) ≡ true
    → lowers row (get_or all_cats i d) ≡ true → list_all (lowers row) (take (i + 1) all_cats) ≡ true
lowers-more row i d lt h k = grind (arith, nat_tests, list_all_more (lowers row) all_cats i d lt)

pub lowers-none : (row : Row) (i : ℕ) (d : Cat) → i < length all_cats → lowers row (get_or all_cats i d) ≡ false
    → false ≡ lowers_all row
unfolding lowers_all
lowers-none row i d lt h = sym (list_all_at (lowers row) all_cats i d lt h)

pub lowers-whole : (row : Row) (i : ℕ) → length all_cats ≤ i → list_all (lowers row) (take i all_cats) ≡ true
    → true ≡ lowers_all row
unfolding lowers_all
lowers-whole row i past h = sym (ap (list_all (lowers row)) (sym (take_all i all_cats past)) ∙ h)

pub ends-none : (row : Row) (k : ℕ) → row.offset ≤ k → k < row.offset + row.replaced → in_set (test row k) End ≡ true
    → false ≡ without_end row row.offset row.replaced
ends-none row k from to h =
    let split : row.offset + (k - row.offset) ≡ k = omega arith in
    sym (not-all-numbers (λ n. not (in_set (test row n) End)) row.offset row.replaced (k - row.offset) (omega arith)
    (ap (λ n. not (in_set (test row n) End)) split ∙ ap not h))

pub ends-whole : (row : Row) (k : ℕ) → row.offset + row.replaced ≤ k → ((n : ℕ) → row.offset ≤ n → n < k → in_set
    (test row n) End ≡ false) → true ≡ without_end row row.offset row.replaced
ends-whole row k past h = grind (arith, nat_tests, all-numbers)

-- The pieces, one after the other.

scraps-some : (piece : Piece) (rest : List Piece) (k : ℕ) → scrap_in piece ≡ Some k → scraps_in (piece ∷ rest)
    ≡ k ∷ scraps_in rest
scraps-some x1 rest k e = grind (arith, nat_tests)

scraps-none : (piece : Piece) (rest : List Piece) → scrap_in piece ≡ None → scraps_in (piece ∷ rest) ≡ scraps_in rest
scraps-none x1 rest e = grind (arith, nat_tests)

pub scraps-on : (pieces : List Piece) (i : ℕ) (d : Piece) (k : ℕ) → i < length pieces → scrap_in (get_or pieces i d)
    ≡ Some k → scraps_in (drop i pieces) ≡ k ∷ scraps_in (drop (i + 1) pieces)
scraps-on pieces i d k lt e = ap scraps_in (drop_more pieces i d lt) ∙ scraps-some _ _ k e

pub scraps-past : (pieces : List Piece) (i : ℕ) (d : Piece) → i < length pieces → scrap_in (get_or pieces i d) ≡ None
    → scraps_in (drop i pieces) ≡ scraps_in (drop (i + 1) pieces)
scraps-past pieces i d lt e = ap scraps_in (drop_more pieces i d lt) ∙ scraps-none _ _ e

drop-past : {X : Type 0} (xs : List X) (i : ℕ) → length xs ≤ i → drop i xs ≡ []
drop-past [] zero h = refl
drop-past [] (suc i) h = refl
drop-past (x ∷ xs) zero h = absurd (omega arith)
drop-past (x ∷ xs) (suc i) h = drop-past xs i (omega arith)

count-down : (next end : ℕ) → next < end → numbers_from next (end - next)
    ≡ next ∷ numbers_from (suc next) (end - suc next)
count-down next end lt = grind (arith, nat_tests)

-- a scrap that is the next one, that is none of the next ones, or that is one too many
pub order-on : (pieces : List Piece) (i k next end : ℕ) (d : Piece) → i < length pieces → scrap_in (get_or pieces i d)
    ≡ Some k → next < end → k ≡ next → same_numbers (scraps_in (drop i pieces)) (numbers_from next (end - next))
    ≡ same_numbers (scraps_in (drop (i + 1) pieces)) (numbers_from (next + 1) (end - (next + 1)))
order-on pieces i k next end d lt e within is = grind (arith, nat_tests, scraps-on, count-down, eq-eqb)

pub order-wrong : (pieces : List Piece) (i k next end : ℕ) (d : Piece) → i < length pieces
    → scrap_in (get_or pieces i d) ≡ Some k → next < end → (k ≡ next → ⊥)
    → same_numbers (scraps_in (drop i pieces)) (numbers_from next (end - next)) ≡ false
order-wrong pieces i k next end d lt e within differs = grind (arith, nat_tests, scraps-on, count-down, ne_eqb)

pub order-many : (pieces : List Piece) (i k next end : ℕ) (d : Piece) → i < length pieces → scrap_in (get_or pieces i d)
    ≡ Some k → next ≡ end → same_numbers (scraps_in (drop i pieces)) (numbers_from next (end - next)) ≡ false
order-many pieces i k next end d lt e full = grind (arith, nat_tests, scraps-on)

pub order-past : (pieces : List Piece) (i : ℕ) (d : Piece) (numbers : List ℕ) → i < length pieces
    → scrap_in (get_or pieces i d) ≡ None → same_numbers (scraps_in (drop i pieces)) numbers
    ≡ same_numbers (scraps_in (drop (i + 1) pieces)) numbers
order-past pieces i d numbers lt e = ap (λ ks. same_numbers ks numbers) (scraps-past pieces i d lt e)

pub order-end : (pieces : List Piece) (i next end : ℕ) → length pieces ≤ i → next ≤ end
    → same_numbers (scraps_in (drop i pieces)) (numbers_from next (end - next)) ≡ eqb next end
order-end pieces i next end past within = grind (arith, nat_tests, drop-past, eq-eqb, ne_eqb)

-- the five parts together are the whole test
pub parts-joined : (row : Row) (a b c d e : Bool) → a ≡ list_all (λ x. x) (tests_parts row) → b ≡ list_all (λ x. x)
    (pieces_parts row) → c ≡ list_all (λ x. x) (result_parts row) → d ≡ list_all (λ x. x) (marks_parts row)
    → e ≡ list_all (λ x. x) (counts_parts row) → ((((a && b) && c) && d) && e) ≡ row_is_sound row
unfolding row_is_sound
parts-joined row a b c d e ea eb ec ed ee =
    let parts : ((((a && b) && c) && d) && e)
    ≡ ((((list_all (λ x. x) (tests_parts row) && list_all (λ x. x) (pieces_parts row)) && list_all (λ x. x)
    (result_parts row)) && list_all (λ x. x) (marks_parts row)) && list_all (λ x. x) (counts_parts row)) = cc in
    parts ∙ ap (λ x. ((x && list_all (λ y. y) (result_parts row)) && list_all (λ y. y) (marks_parts row)) && list_all
    (λ y. y) (counts_parts row)) (sym (list_all-append (λ x. x) (tests_parts row) (pieces_parts row)))
    ∙ ap (λ x. (x && list_all (λ y. y) (marks_parts row)) && list_all (λ y. y) (counts_parts row))
    (sym (list_all-append (λ x. x) (tests_parts row ++ pieces_parts row) (result_parts row)))
    ∙ ap (λ x. x && list_all (λ y. y) (counts_parts row)) (sym (list_all-append (λ x. x)
    ((tests_parts row ++ pieces_parts row) ++ result_parts row) (marks_parts row))) ∙ sym (list_all-append (λ x. x)
    (((tests_parts row ++ pieces_parts row) ++ result_parts row) ++ marks_parts row) (counts_parts row))
