-- No entry has the category of tests, and no change brings one.
use Rattle.cw_names.proofs.Terms.{◌≡◌, ◌≢◌, ℕ, zero, suc, Bool, true, false, ◌&&◌, not, List, [], ◌∷◌, Some, refl, ap}
use Rattle.cw_names.proofs.Terms.{slice_get, map, if◌then◌else◌, arith, insert_entry, set_value_at, Cat, Exp, End, Key}
use Rattle.cw_names.proofs.Terms.{list_all, entry_of, has_no_end_entry, is_end, both-left, both-right, both, nat_tests}

pub real : (cat : Cat) → cat ≢ End → is_end cat ≡ false
real x1 differs = grind (arith, nat_tests)

-- it is seen of the entries themselves
pub of-view : (entries : List (Key × Cat)) → has_no_end_entry entries
    ≡ list_all (λ entry. not (is_end entry.category)) (map entry_of entries)
of-view [] = refl
of-view (e ∷ entries) = ap (λ b. not (is_end e.1) && b) (of-view entries)

inserted-by : (b : Bool) (eq : Key → Key → Bool) (e : Key × Cat) (entries : List (Key × Cat)) (key : Key)
    → has_no_end_entry (e ∷ entries) ≡ true → has_no_end_entry (insert_entry eq entries key Exp) ≡ true
    → has_no_end_entry (if b then (e.0, Exp) ∷ entries else e ∷ insert_entry eq entries key Exp) ≡ true
inserted-by x1 eq e entries key none rest = grind (arith, nat_tests, both-right, nat_tests, both, both-left)

pub inserted : (eq : Key → Key → Bool) (entries : List (Key × Cat)) (key : Key) → has_no_end_entry entries ≡ true
    → has_no_end_entry (insert_entry eq entries key Exp) ≡ true
inserted eq [] key none = refl
inserted eq (e ∷ entries) key none = inserted-by (eq key e.0) eq e entries key none
    (inserted eq entries key (both-right (not (is_end e.1)) (has_no_end_entry entries) none))

pub changed : (entries : List (Key × Cat)) (i : ℕ) (cat : Cat) → cat ≢ End → has_no_end_entry entries ≡ true
    → has_no_end_entry (set_value_at entries i cat) ≡ true
changed [] i cat differs none = refl
changed (e ∷ entries) zero cat differs none = grind (arith, nat_tests, both, real, both-right)
changed (e ∷ entries) (suc i) cat differs none = both (not (is_end e.1)) (has_no_end_entry (set_value_at entries i cat))
    (both-left (not (is_end e.1)) (has_no_end_entry entries) none)
    (changed entries i cat differs (both-right (not (is_end e.1)) (has_no_end_entry entries) none))

pub found : (entries : List (Key × Cat)) (i : ℕ) (e : Key × Cat) → slice_get entries i ≡ Some e
    → has_no_end_entry entries ≡ true → e.1 ≢ End
found [] i e is none = λ end. cc
found (x ∷ entries) zero e is none = grind (arith, nat_tests, both-left)
found (x ∷ entries) (suc i) e is none =
    found entries i e is (both-right (not (is_end x.1)) (has_no_end_entry entries) none)
