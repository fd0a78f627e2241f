-- The productions of the code, joined row by row, are those of the definition.
use Rattle.cw_table.proofs.Terms.{◌≡◌, ◌<◌, ◌≤◌, ◌+◌, ◌++◌, ◌∙◌, sym, ap, ℕ, zero, suc, List, [], ◌∷◌, length, get_or}
use Rattle.cw_table.proofs.Terms.{set, take, Some, Bool, true, refl, arith, take_all, take_more, take_more_set}
use Rattle.cw_table.proofs.Terms.{slice_get, get_or_from_slice_get, nat_tests, Row, CatSet, Head, TESTS, USUAL, OTHER}
use Rattle.cw_table.proofs.Terms.{HEADS, ROW_COUNT, Piece, joined, zipped}
use Rattle.cw_table.specs.Productions.{productions}

pub zipped-is : zipped TESTS USUAL OTHER HEADS ≡ productions
unfolding productions
zipped-is = refl

pub zipped-get : (ts : List (List CatSet)) (us os : List (List Piece)) (hs : List Head) (i : ℕ) (a : List CatSet)
    (b c : List Piece) (d : Head) → i < length ts → i < length us → i < length os → i < length hs
    → slice_get (zipped ts us os hs) i ≡ Some (joined (get_or ts i a) (get_or us i b) (get_or os i c) (get_or hs i d))
zipped-get [] us os hs i a b c d p q r s = absurd (omega arith)
zipped-get (t ∷ ts) [] os hs i a b c d p q r s = absurd (omega arith)
zipped-get (t ∷ ts) (u ∷ us) [] hs i a b c d p q r s = absurd (omega arith)
zipped-get (t ∷ ts) (u ∷ us) (o ∷ os) [] i a b c d p q r s = absurd (omega arith)
zipped-get (t ∷ ts) (u ∷ us) (o ∷ os) (h ∷ hs) zero a b c d p q r s = refl
zipped-get (t ∷ ts) (u ∷ us) (o ∷ os) (h ∷ hs) (suc i) a b c d p q r s =
    zipped-get ts us os hs i a b c d (omega arith) (omega arith) (omega arith) (omega arith)

pub productions-length : length productions ≡ ROW_COUNT
unfolding productions
productions-length = refl

-- one row more is as in the definition
pub joins-more : (rows : List Row) (i : ℕ) (r : Row) → length rows ≡ ROW_COUNT → i < ROW_COUNT → take i rows
    ≡ take i productions → slice_get productions i ≡ Some r → take (i + 1) (set rows i r) ≡ take (i + 1) productions
joins-more rows i r len below same at = take_more_set rows i r (omega arith) ∙ ap (λ xs. xs ++ r ∷ []) same
    ∙ ap (λ x. take i productions ++ x ∷ []) (sym (get_or_from_slice_get productions i r r at))
    ∙ sym (take_more productions i r (omega (arith, productions-length)))

pub joins-all : (rows : List Row) (i : ℕ) → length rows ≡ ROW_COUNT → ROW_COUNT ≤ i → take i rows ≡ take i productions
    → rows ≡ productions
joins-all rows i len past same = grind (arith, nat_tests, take_all, productions-length)

pub joined-test : (p : List Row → Bool) (rows : List Row) → p productions ≡ true → rows ≡ productions → p rows ≡ true
joined-test p rows h e = ap p e ∙ h
