-- Productions keep the numbers of the source tokens, in order.
use Rattle.cw_table.proofs.Terms.{◌≡◌, ℕ, zero, suc, ◌+◌, true, List, [], ◌∷◌, ◌++◌, map, get_or, take, drop, set, refl}
use Rattle.cw_table.proofs.Terms.{sym, ◌∙◌, ap, drop-drop, arith, append_assoc, take-append-drop, list_all, nat_tests}
use Rattle.cw_table.proofs.Terms.{Cat, Flags, MathMode, Leaf, Tree, Empty, Then, Sub, Inner, Search, reserved_leaf}
use Rattle.cw_table.proofs.Terms.{reserve_first, Scrap, no_scrap, JoinPiece, Whole, Mark, needs, after, toggled}
use Rattle.cw_table.proofs.Terms.{joined_tree, Piece, Row, result_at, scraps_in, numbers_from, row_is_sound, IsSound}
use Rattle.cw_table.proofs.Terms.{cats_of, row_pieces, math_piece, joined_of, new_from, new_scrap, search_in, Action}
use Rattle.cw_table.proofs.Terms.{reserved_in, bolded, worded_at, named_scrap, named_right, rewrite_from, State}
use Rattle.cw_table.proofs.Terms.{rewrite, Place, Nowhere, At, next_place, weight, is_fine, steps}
use Rattle.cw_trees.specs.Flat.{leaf_numbers, is_name_text, continues_name, struck}
use Rattle.cw_table.specs.{Normal.normal, SourceNumbers.numbers_of}
use Rattle.cw_table.proofs.Falling.{pieces-whole, alone-is}
use Rattle.cw_table.proofs.Normals.{takes, steps-none, steps-turn}
use Rattle.cw_table.specs.declared.types.Piece.TheVariants as piece

pub numbers-append : (xs ys : List Scrap) → numbers_of (xs ++ ys) ≡ numbers_of xs ++ numbers_of ys
numbers-append [] ys = refl
numbers-append (x ∷ xs) ys = grind (arith, nat_tests, numbers-append xs ys, append_assoc)

pub numbers-split : (n : ℕ) (xs : List Scrap) → numbers_of (take n xs) ++ numbers_of (drop n xs) ≡ numbers_of xs
numbers-split n xs = sym (numbers-append (take n xs) (drop n xs)) ∙ ap numbers_of (take-append-drop n xs)

-- reserving
reserved-numbers : (leaf : Leaf) → leaf_numbers (reserved_leaf leaf) ≡ leaf_numbers leaf
reserved-numbers x1 = grind (arith, nat_tests)

reserved-text : (leaf : Leaf) → is_name_text (reserved_leaf leaf) ≡ is_name_text leaf
reserved-text x1 = grind (arith, nat_tests)

continues-reserved : (tree : Tree) → continues_name (reserve_first tree) ≡ continues_name tree
continues-reserved x1 = grind (arith, nat_tests, nat_tests, reserved-text)

pub struck-reserved : (tree : Tree) → struck (reserve_first tree) ≡ struck tree
struck-reserved Empty = refl
struck-reserved (Then leaf rest) = grind (arith, nat_tests, struck-reserved rest, reserved-numbers)
struck-reserved (Sub tree rest) = grind (arith, nat_tests, struck-reserved tree, struck-reserved rest)
struck-reserved (Inner tree rest) = grind (arith, nat_tests, struck-reserved rest, continues-reserved)

struck-bolded : (s : Scrap) → struck (bolded s).tree ≡ struck s.tree
struck-bolded s = grind (arith, nat_tests, struck-reserved)

numbers-set : (f : Scrap → Scrap) → ((s : Scrap) → struck (f s).tree ≡ struck s.tree) → (xs : List Scrap) (k : ℕ)
    → numbers_of (set xs k (f (get_or xs k no_scrap))) ≡ numbers_of xs
numbers-set f keeps [] k = refl
numbers-set f keeps (x ∷ xs) zero = ap (λ ns. ns ++ numbers_of xs) (keeps x)
numbers-set f keeps (x ∷ xs) (suc k) = ap (λ ns. struck x.tree ++ ns) (numbers-set f keeps xs k)

numbers-at : (action : Action) (xs : List Scrap) → numbers_of (worded_at action xs) ≡ numbers_of xs
numbers-at action xs =
    grind (arith, nat_tests, numbers-set reserved_in (λ s. struck-reserved s.tree), numbers-set bolded struck-bolded)

numbers-named : (name : ℕ) (s : Scrap) → struck (named_scrap name s).tree ≡ struck s.tree
numbers-named name s = grind (arith, nat_tests, struck-reserved)

numbers-map : (name : ℕ) (xs : List Scrap) → numbers_of (map (named_scrap name) xs) ≡ numbers_of xs
numbers-map name [] = refl
numbers-map name (x ∷ xs) = grind (arith, nat_tests, numbers-map name xs, numbers-named)

numbers-right : (s : Search) (xs : List Scrap) → numbers_of (named_right s xs) ≡ numbers_of xs
numbers-right x1 xs = grind (arith, nat_tests, numbers-map)

-- joining
struck-toggled : (m l : MathMode) (tree : Tree) → struck (toggled m l tree) ≡ struck tree
struck-toggled x1 x2 tree = grind (arith, nat_tests)

piece_numbers : List JoinPiece → List ℕ
piece_numbers [] = []
piece_numbers (Whole tree l r ∷ js) = struck tree ++ piece_numbers js
piece_numbers (Mark control ∷ js) = piece_numbers js

struck-joined : (m : MathMode) (js : List JoinPiece) → struck (joined_tree m js) ≡ piece_numbers js
unfolding piece_numbers
struck-joined m [] = refl
struck-joined m (Whole tree l r ∷ js) = grind (arith, nat_tests, struck-joined (after m l r) js, struck-toggled)
struck-joined m (Mark control ∷ js) =
    grind (arith, nat_tests, struck-joined (after m (needs control) (needs control)) js, struck-toggled)

numbers_at : List Scrap → List ℕ → List ℕ
numbers_at xs [] = []
numbers_at xs (k ∷ ks) = struck (get_or xs k no_scrap).tree ++ numbers_at xs ks

math-numbers : (tree : Tree) (l r : MathMode) (js : List JoinPiece) → piece_numbers (math_piece tree l r ∷ js)
    ≡ struck tree ++ piece_numbers js
unfolding piece_numbers
math-numbers tree l r js = grind (arith, nat_tests)

joined-numbers : (xs : List Scrap) (ps : List Piece) → piece_numbers (map (joined_of xs) ps)
    ≡ numbers_at xs (scraps_in ps)
unfolding piece_numbers numbers_at
joined-numbers xs [] = refl
joined-numbers xs (piece.Scrap k ∷ ps) = ap (λ ns. struck (get_or xs k no_scrap).tree ++ ns) (joined-numbers xs ps)
joined-numbers xs (piece.MathScrap k ∷ ps) = grind (arith, nat_tests, joined-numbers xs ps, math-numbers)
joined-numbers xs (_ ∷ ps) = joined-numbers xs ps

one-more : (xs : List Scrap) (first count : ℕ) → numbers_of (take (suc count) (drop first xs))
    ≡ struck (get_or xs first no_scrap).tree ++ numbers_of (take count (drop (suc first) xs))
one-more [] zero zero = refl
one-more [] zero (suc count) = refl
one-more [] (suc first) zero = refl
one-more [] (suc first) (suc count) = refl
one-more (x ∷ xs) zero count = refl
one-more (x ∷ xs) (suc first) count = one-more xs first count

run-numbers : (xs : List Scrap) (first count : ℕ) → numbers_at xs (numbers_from first count)
    ≡ numbers_of (take count (drop first xs))
unfolding numbers_at
run-numbers xs first zero = refl
run-numbers xs first (suc count) = grind (arith, nat_tests, run-numbers xs (suc first) count, one-more)

append-none : (ns : List ℕ) → ns ++ [] ≡ ns
append-none [] = refl
append-none (n ∷ ns) = ap (λ ms. n ∷ ms) (append-none ns)

new-numbers : (cat : Cat) (n : ℕ) (ps : List Piece) (xs : List Scrap) → struck (new_from cat n ps xs).tree
    ≡ numbers_at xs (scraps_in ps)
unfolding numbers_at
new-numbers cat n ps xs = grind (arith, nat_tests, numbers_at, append-none, alone-is, struck-joined, joined-numbers)

from-numbers : (flags : Flags) (row : Row) (xs : List Scrap) → IsSound row → numbers_of (rewrite_from flags row xs)
    ≡ numbers_of xs
from-numbers flags row xs s = grind (
  arith,
  nat_tests,
  numbers-append (take row.offset (worded_at row.action xs))
      (new_scrap flags row (worded_at row.action xs) ∷ named_right (search_in row.action.reserve xs)
      (drop (row.offset + row.replaced) (worded_at row.action xs))),
  new-numbers (result_at row.result (cats_of (worded_at row.action xs))) row.replaced
      (row_pieces flags row (cats_of (worded_at row.action xs))) (worded_at row.action xs),
  numbers_at (worded_at row.action xs),
  pieces-whole flags row (cats_of (worded_at row.action xs)) s,
  run-numbers (worded_at row.action xs) row.offset row.replaced,
  numbers-right (search_in row.action.reserve xs)
      (drop (row.offset + row.replaced) (worded_at row.action xs)),
  drop-drop row.replaced row.offset (worded_at row.action xs),
  numbers-split row.replaced (drop row.offset (worded_at row.action xs)),
  numbers-split row.offset (worded_at row.action xs),
  numbers-at row.action xs,
)

pub rewrite-numbers : (flags : Flags) (row : Row) (place : ℕ) (st : State) → IsSound row
    → numbers_of (rewrite flags row place st).scraps ≡ numbers_of st.scraps
rewrite-numbers flags row place st s = grind (arith, nat_tests, numbers-append, from-numbers, numbers-split)

pub steps-numbers : (rows : List Row) (flags : Flags) (n : ℕ) (st : State) → list_all row_is_sound rows ≡ true
    → list_all is_fine st.scraps ≡ true → numbers_of (steps rows flags n st).scraps ≡ numbers_of st.scraps
steps-numbers rows flags zero st all fine = refl
steps-numbers rows flags (suc n) st all fine = go (next_place rows st) refl (λ s. steps-numbers rows flags n s all)
  where
    go : (p : Place) → next_place rows st ≡ p → ((s : State) → list_all is_fine s.scraps ≡ true
        → numbers_of (steps rows flags n s).scraps ≡ numbers_of s.scraps)
        → numbers_of (steps rows flags (suc n) st).scraps ≡ numbers_of st.scraps
    go Nowhere e rec = ap (λ (s : State). numbers_of s.scraps) (steps-none rows flags (suc n) st e)
    go (At i r) e rec =
        let t = takes rows flags st i r all fine e in
        ap (λ (s : State). numbers_of s.scraps) (steps-turn rows flags n i r st e)
        ∙ rec (rewrite flags r i st) t.falls.fine ∙ rewrite-numbers flags r i st t.is_sound

pub normal-numbers : (rows : List Row) (flags : Flags) (st : State) → list_all row_is_sound rows ≡ true
    → list_all is_fine st.scraps ≡ true → numbers_of (normal rows flags st).scraps ≡ numbers_of st.scraps
unfolding normal
normal-numbers rows flags st all fine = steps-numbers rows flags (weight st.scraps) st all fine
