-- Texts are compared byte by byte.
use Rattle.cw_index.proofs.Terms.{◌≡◌, ℕ, ◌+◌, ◌-◌, ◌<◌, ◌≤◌, true, false, refl, List, [], ◌∷◌, length, drop, arith}
use Rattle.cw_index.proofs.Terms.{nat_tests, drop_all, drop_more, length-drop, slice_index, Ordering, is_ne, nat_cmp}
use Rattle.cw_index.proofs.Terms.{ordering_then, class_of, class_cmp, classes_cmp}

-- An answer decides where it isn't Equal, and else the rest does.
then-ne : (o rest : Ordering) → is_ne o ≡ true → ordering_then o rest ≡ o
then-ne o rest h = grind arith

then-eq : (o rest : Ordering) → is_ne o ≡ false → ordering_then o rest ≡ rest
then-eq o rest h = grind arith

-- the bytes from a place on
abbrev pub from : ℕ → List ℕ → List ℕ → Ordering
from i xs ys = classes_cmp (drop i xs) (drop i ys)

abbrev at : ℕ → List ℕ → List ℕ → Ordering
at i xs ys = class_cmp (class_of (slice_index xs i)) (class_of (slice_index ys i))

from-more : (i : ℕ) (xs ys : List ℕ) → i < length xs → i < length ys
    → from i xs ys ≡ ordering_then (at i xs ys) (from (i + 1) xs ys)
from-more i xs ys first second = rw (drop_more xs i 0 first, drop_more ys i 0 second) refl

pub from-decided : (i : ℕ) (xs ys : List ℕ) (o : Ordering) → i < length xs → i < length ys → o ≡ at i xs ys
    → is_ne o ≡ true → o ≡ from i xs ys
from-decided i xs ys o first second is ne = grind (arith, then-ne, from-more)

pub from-next : (i : ℕ) (xs ys : List ℕ) (o : Ordering) → i < length xs → i < length ys → o ≡ at i xs ys
    → is_ne o ≡ false → from (i + 1) xs ys ≡ from i xs ys
from-next i xs ys o first second is eq = grind (arith, then-eq, from-more)

-- Where one text has ended the lengths decide.
lengths-first : (ys : List ℕ) → classes_cmp [] ys ≡ nat_cmp 0 (length ys)
lengths-first ys = grind (arith, nat_tests)

lengths-second : (xs : List ℕ) → classes_cmp xs [] ≡ nat_cmp (length xs) 0
lengths-second [] = refl
lengths-second (x ∷ xs) = grind (arith, nat_tests)

shifted : (a b i : ℕ) → i ≤ a → i ≤ b → nat_cmp (a - i) (b - i) ≡ nat_cmp a b
shifted a b i first second = grind (arith, nat_tests)

pub from-first : (i : ℕ) (xs ys : List ℕ) → length xs ≤ i → i ≤ length xs → i ≤ length ys
    → from i xs ys ≡ nat_cmp (length xs) (length ys)
from-first i xs ys ended first second = grind (arith, drop_all, lengths-first, length-drop, shifted)

pub from-second : (i : ℕ) (xs ys : List ℕ) → length ys ≤ i → i ≤ length ys → i ≤ length xs
    → from i xs ys ≡ nat_cmp (length xs) (length ys)
from-second i xs ys ended second first = grind (arith, drop_all, lengths-second, length-drop, shifted)
