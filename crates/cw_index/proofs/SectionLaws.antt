-- The sections that are listed are printed one after another.
use Rattle.cw_index.proofs.Terms.{◌≡◌, ℕ, ◌+◌, ◌<◌, Bool, true, false, refl, List, [], ◌∷◌, ◌++◌, drop, length, arith}
use Rattle.cw_index.proofs.Terms.{slice_index_or, flat_map, flat_map-append, append-nil, drop_more, filter-append}
use Rattle.cw_index.proofs.Terms.{SectionRef, is_listed, listed}

-- what the sections of a list print, of those that are listed
abbrev pub listed_bytes : (SectionRef → List ℕ) → Bool → List SectionRef → List ℕ
listed_bytes f only ms = flat_map f (listed only ms)

printed-append : (f : SectionRef → List ℕ) (only : Bool) (xs ys : List SectionRef)
    → listed_bytes f only (xs ++ ys) ≡ listed_bytes f only xs ++ listed_bytes f only ys
printed-append f only xs ys = grind (arith, filter-append, flat_map-append)

pub printed-more : (f : SectionRef → List ℕ) (only : Bool) (ms : List SectionRef) (i : ℕ) (d : SectionRef)
    → i < length ms → listed_bytes f only (drop i ms) ≡ listed_bytes f only (slice_index_or ms i d ∷ [])
    ++ listed_bytes f only (drop (i + 1) ms)
printed-more f only ms i d within =
    grind (arith, drop_more ms i d within, printed-append f only (slice_index_or ms i d ∷ []) (drop (i + 1) ms))

pub printed-none : (f : SectionRef → List ℕ) (only : Bool) (m : SectionRef) → is_listed only m ≡ false
    → listed_bytes f only (m ∷ []) ≡ []
printed-none f only m is = rw is refl

pub printed-one : (f : SectionRef → List ℕ) (only : Bool) (m : SectionRef) → is_listed only m ≡ true
    → listed_bytes f only (m ∷ []) ≡ f m
printed-one f only m is = rw is (append-nil (f m))
