-- A name is void by what its bytes are one after another.
use Rattle.std.proofs.Common.{◌≡◌, ℕ, zero, suc, ◌+◌, ◌<◌, Bool, true, false, ◌==◌, List, ◌∷◌, length, slice_index}
use Rattle.std.proofs.Common.{drop, ap, ◌∙◌, arith, if◌then◌else◌}
use Rattle.std.proofs.{lemmas.Bool.eqb-true, lemmas.Bool.Decides.nat_tests}
use Rattle.cw_rules.specs.{declared.classes.Class.TheVariants.White, Bytes.is_in, Bytes.run}
use Rattle.cw_rules.specs.Names.{uncoded, is_void_from, void_behind}

abbrev pub may_be_white : ℕ → Bool
may_be_white zero = true
may_be_white (suc zero) = false
may_be_white (suc (suc zero)) = false
may_be_white (suc (suc (suc n))) = true

run-white : (b : ℕ) (bs : List ℕ) → is_in White b ≡ true → run White (b ∷ bs) ≡ 1 + run White bs
run-white b bs h = ap (λ t. if t then 1 + run White bs else 0) h

suc-eq : (m n : ℕ) → (suc m == suc n) ≡ (m == n)
suc-eq m n = grind (arith, nat_tests)

one-more : (n : ℕ) → 1 + n ≡ suc n
one-more n = omega arith

other-empty : (n : ℕ) → (suc n == 0) ≡ false
other-empty n = grind (arith, nat_tests)

-- white space goes on before the dots and behind three of them
pub void-white : (dots b : ℕ) (bs : List ℕ) → is_in White b ≡ true → may_be_white dots ≡ true
    → void_behind dots (b ∷ bs) ≡ void_behind dots bs
void-white zero b bs w m = ap (λ n. is_void_from (drop n (b ∷ bs))) (run-white b bs w ∙ one-more (run White bs))
void-white (suc zero) b bs w m = cc
void-white (suc (suc zero)) b bs w m = cc
void-white (suc (suc (suc n))) b bs w m = grind (arith, nat_tests, run-white, one-more, suc-eq)

-- one dot more
pub void-dot : (dots : ℕ) (bs : List ℕ) → dots < 3 → void_behind dots (46 ∷ bs) ≡ void_behind (dots + 1) bs
void-dot x1 bs h = grind (arith, nat_tests, other-empty)

uncoded-plain : (b : ℕ) (bs : List ℕ) → (b == 64) ≡ false → uncoded (b ∷ bs) ≡ b ∷ uncoded bs
uncoded-plain b x2 h = grind (arith, nat_tests, nat_tests)

not-equal : (m n : ℕ) → (m ≡ n → ⊥) → (m == n) ≡ false
not-equal m n h = grind (arith, nat_tests, eqb-true)

may-white : (dots : ℕ) → (dots ≡ 1 → ⊥) → (dots ≡ 2 → ⊥) → may_be_white dots ≡ true
may-white x1 a b = grind (arith, nat_tests)

-- one byte of a name
pub white-step : (dots : ℕ) (bytes : List ℕ) → 0 < length bytes → (slice_index bytes 0 ≡ 64 → ⊥)
    → is_in White (slice_index bytes 0) ≡ true
    → (dots ≡ 1 → ⊥) → (dots ≡ 2 → ⊥) → void_behind dots (uncoded bytes) ≡ void_behind dots (uncoded (drop 1 bytes))
white-step dots bytes some h w m n = grind (arith, nat_tests, uncoded-plain, not-equal, void-white, may-white)

pub dot-step : (dots : ℕ) (bytes : List ℕ) → 0 < length bytes → slice_index bytes 0 ≡ 46 → dots < 3
    → void_behind dots (uncoded bytes) ≡ void_behind (dots + 1) (uncoded (drop 1 bytes))
dot-step dots x2 some e h = grind (arith, nat_tests, nat_tests, uncoded-plain, void-dot)
