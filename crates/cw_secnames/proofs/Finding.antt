-- Names in memory, and the first that pass a test.
use Rattle.std.proofs.Common.{◌≡◌, ℕ, zero, suc, ◌+◌, ◌<◌, ◌≤◌, ◌&&◌, Bool, true, false, not, nat_lt, List, [], ◌∷◌}
use Rattle.std.proofs.Common.{Option, Some, None, map, length, drop, cond, refl, ap, sym, get_or, add-zero, zero-add}
use Rattle.std.proofs.Common.{arith}
use Rattle.cw_secnames.specs.declared.kinds.Earliest.TheVariants.{Nobody, One, Several}
use Rattle.cw_secnames.specs.declared.{kinds.RefKind.RefKind, sec_names.KeptName.KeptName}
use Rattle.cw_secnames.specs.{References.with_section, References.with_reference, model.Inside.name_of}
use Rattle.std.specs.{List.position, List.position_or_len, Option.option_map, Global.Vec}
use Rattle.cw_secnames.specs.Kept.{SecName, with_text, positions_from, grown, earliest}
use Rattle.std.specs.Prelude.{slice_set}

pub length-named : (xs : List KeptName) → length (map name_of xs) ≡ length xs
length-named [] = refl
length-named (x ∷ xs) = ap suc (length-named xs)

pub with_text-map : (xs : List KeptName) (i : ℕ) (d old : KeptName) (t : Vec ℕ) (text : List ℕ) (complete : Bool)
    → old ≡ get_or xs i d → t.items ≡ text → map name_of (slice_set xs i (record old { text = t; complete = complete }))
    ≡ with_text i text complete (map name_of xs)
with_text-map [] i d old t text complete same h = refl
with_text-map (x ∷ xs) zero d old t text complete same h = rw (same, h) refl
with_text-map (x ∷ xs) (suc i) d old t text complete same h =
    ap (λ rest. name_of x ∷ rest) (with_text-map xs i d old t text complete same h)

-- ## A name changed in memory

pub length-with_text : (i : ℕ) (text : List ℕ) (complete : Bool) (names : List SecName)
    → length (with_text i text complete names) ≡ length names
length-with_text i text complete [] = refl
length-with_text zero text complete (n ∷ names) = refl
length-with_text (suc i) text complete (n ∷ names) = ap suc (length-with_text i text complete names)

pub length-with_reference : (i : ℕ) (how : RefKind) (section : ℕ) (names : List SecName)
    → length (with_reference i how section names) ≡ length names
length-with_reference i how section [] = refl
length-with_reference zero how section (n ∷ names) = refl
length-with_reference (suc i) how section (n ∷ names) = ap suc (length-with_reference i how section names)

pub same-map : (xs : List KeptName) (i : ℕ) (d new : KeptName) → name_of new ≡ name_of (get_or xs i d)
    → map name_of (slice_set xs i new) ≡ map name_of xs
same-map [] i d new h = refl
same-map (x ∷ xs) zero d new h = ap (λ n. n ∷ map name_of xs) h
same-map (x ∷ xs) (suc i) d new h = ap (λ rest. name_of x ∷ rest) (same-map xs i d new h)

pub reference-map : (xs : List KeptName) (i : ℕ) (d new : KeptName) (how : RefKind) (section : ℕ)
    → name_of new ≡ with_section how section (name_of (get_or xs i d))
    → map name_of (slice_set xs i new) ≡ with_reference i how section (map name_of xs)
reference-map [] i d new how section h = refl
reference-map (x ∷ xs) zero d new how section h = ap (λ n. n ∷ map name_of xs) h
reference-map (x ∷ xs) (suc i) d new how section h = grind (arith, reference-map xs i d new how section h)

shorter-by : (b : Bool) (x : KeptName) (prefix : List ℕ) (rest : List SecName) → b ≡ false → x.complete ≡ b
    → length x.text.items < length prefix
    → (record (name_of x) { text = prefix; complete = false } ∷ rest) ≡ grown prefix zero (name_of x ∷ rest)
shorter-by b x prefix rest f e h = grind arith

pub grown-shorter : (prefix : List ℕ) (xs : List KeptName) (i : ℕ) (d : KeptName)
    → (get_or xs i d).complete ≡ false → length (get_or xs i d).text.items < length prefix
    → with_text i prefix false (map name_of xs) ≡ grown prefix i (map name_of xs)
grown-shorter prefix [] i d h k = refl
grown-shorter prefix (x ∷ xs) zero d h k = shorter-by x.complete x prefix (map name_of xs) h refl k
grown-shorter prefix (x ∷ xs) (suc i) d h k = ap (λ rest. name_of x ∷ rest) (grown-shorter prefix xs i d h k)

pub grown-complete : (prefix : List ℕ) (xs : List KeptName) (i : ℕ) (d : KeptName) → (get_or xs i d).complete ≡ true
    → map name_of xs ≡ grown prefix i (map name_of xs)
grown-complete prefix [] i d h = refl
grown-complete prefix (x ∷ xs) zero d h = rw h refl
grown-complete prefix (x ∷ xs) (suc i) d h = ap (λ rest. name_of x ∷ rest) (grown-complete prefix xs i d h)

not-below : (a b : ℕ) → b ≤ a → nat_lt a b ≡ false
not-below a b h = grind arith

still : (complete : Bool) → (not complete && false) ≡ false
still complete = grind arith

pub grown-longer : (prefix : List ℕ) (xs : List KeptName) (i : ℕ) (d : KeptName)
    → length prefix ≤ length (get_or xs i d).text.items → map name_of xs ≡ grown prefix i (map name_of xs)
grown-longer prefix [] i d h = refl
grown-longer prefix (x ∷ xs) zero d h = rw (not-below _ _ h, still x.complete, grown) refl
grown-longer prefix (x ∷ xs) (suc i) d h = ap (λ rest. name_of x ∷ rest) (grown-longer prefix xs i d h)

-- ## The earliest that pass a test

-- Where a name is found, it passes; the names before it don't, and it stands among the names.
pub record IsFirst (test : SecName → Bool) (names : List SecName) (k j : ℕ) : Type 0 where
  pub positions : positions_from k test names ≡ (k + j) ∷ positions_from (k + j + 1) test (drop (j + 1) names)
  pub below : j < length names

dropped : (n : SecName) (names : List SecName) (j : ℕ) → drop ((1 + j) + 1) (n ∷ names) ≡ drop (j + 1) names
dropped n names j = let one : (1 + j) + 1 ≡ suc (j + 1) = omega arith in ap (λ m. drop m (n ∷ names)) one

first-by : (t : Bool) (test : SecName → Bool) (n : SecName) (names : List SecName) (k j : ℕ) → test n ≡ t
    → cond (not t) (1 + j) 0 < suc (length names) → (j < length names → IsFirst test names (k + 1) j)
    → IsFirst test (n ∷ names) k (cond (not t) (1 + j) 0)
first-by t test n names k j h below rest = grind (arith, add-zero, dropped)

is_first : (test : SecName → Bool) (names : List SecName) (k : ℕ) → position_or_len test names < length names
    → IsFirst test names k (position_or_len test names)
is_first test [] k h = absurd (omega arith)
is_first test (n ∷ names) k h = grind (arith, is_first test names (k + 1), first-by)

nobody-by : (t : Bool) (test : SecName → Bool) (n : SecName) (names : List SecName) (k j : ℕ) → test n ≡ t
    → (cond (not t) (1 + j) 0 < suc (length names) → ⊥)
    → ((j < length names → ⊥) → positions_from (k + 1) test names ≡ []) → positions_from k test (n ∷ names) ≡ []
nobody-by t test n names k j h none rest = grind arith

nobody : (test : SecName → Bool) (names : List SecName) (k : ℕ) → (position_or_len test names < length names → ⊥)
    → positions_from k test names ≡ []
nobody test [] k h = refl
nobody test (n ∷ names) k h = grind (arith, nobody test names (k + 1), nobody-by)

some-by : (b : Bool) (p n i : ℕ) → nat_lt p n ≡ b → cond b (Some p) None ≡ Some i → (p ≡ i) × (p < n)
some-by b p n i h e = grind arith

none-by : (b : Bool) (p n : ℕ) → nat_lt p n ≡ b → cond b (Some p) None ≡ None → p < n → ⊥
none-by b p n h e below = grind arith

pub found-first : (test : SecName → Bool) (names : List SecName) (k i : ℕ) → position test names ≡ Some i
    → IsFirst test names k i
found-first test names k i h = grind (arith, some-by, is_first)

pub found-nobody : (test : SecName → Bool) (names : List SecName) (k : ℕ) → position test names ≡ None
    → positions_from k test names ≡ []
found-nobody test names k h = grind (arith, nobody, none-by)

pub earliest-nobody : (test : SecName → Bool) (names : List SecName) → position test names ≡ None
    → Nobody ≡ earliest (positions_from 0 test names)
earliest-nobody test names h = sym (ap earliest (found-nobody test names 0 h))

pub earliest-one : (test : SecName → Bool) (names : List SecName) (i : ℕ) → position test names ≡ Some i
    → position test (drop (i + 1) names) ≡ None → One i ≡ earliest (positions_from 0 test names)
earliest-one test names i h none =
    grind (arith, found-first test names 0 i h, zero-add i, found-nobody test (drop (i + 1) names) (i + 1) none)

pub earliest-several : (test : SecName → Bool) (names : List SecName) (i j : ℕ) → position test names ≡ Some i
    → position test (drop (i + 1) names) ≡ Some j → Several i ((i + 1) + j) ≡ earliest (positions_from 0 test names)
earliest-several test names i j h more =
    grind (arith, found-first test names 0 i h, found-first test (drop (i + 1) names) (i + 1) j more, zero-add i)

-- ## The next one from a position on

moved-none : (i : ℕ) (o : Option ℕ) → option_map (λ more. i + more) o ≡ None → o ≡ None
moved-none i o h = grind arith

moved-some : (i k : ℕ) (o : Option ℕ) → option_map (λ more. i + more) o ≡ Some k → (more : ℕ) × (o ≡ Some more)
    × (i + more ≡ k)
moved-some i k o h = grind arith

pub from-nobody : (test : SecName → Bool) (names : List SecName) → option_map (λ more. 0 + more)
    (position test (drop 0 names)) ≡ None → Nobody ≡ earliest (positions_from 0 test names)
from-nobody test names h = earliest-nobody test names (moved-none 0 (position test names) h)

first-from : (test : SecName → Bool) (names : List SecName) (i : ℕ)
    → option_map (λ more. 0 + more) (position test (drop 0 names)) ≡ Some i → position test names ≡ Some i
first-from test names i h = grind (arith, moved-some, zero-add)

pub from-one : (test : SecName → Bool) (names : List SecName) (i : ℕ)
    → option_map (λ more. 0 + more) (position test (drop 0 names)) ≡ Some i → option_map (λ more. (i + 1) + more)
    (position test (drop (i + 1) names)) ≡ None → One i ≡ earliest (positions_from 0 test names)
from-one test names i h none = grind (arith, earliest-one, first-from, moved-none)

pub from-several : (test : SecName → Bool) (names : List SecName) (i next : ℕ)
    → option_map (λ more. 0 + more) (position test (drop 0 names)) ≡ Some i → option_map (λ more. (i + 1) + more)
    (position test (drop (i + 1) names)) ≡ Some next → Several i next ≡ earliest (positions_from 0 test names)
from-several test names i next h more = grind (arith, moved-some, earliest-several, first-from)
