-- TeX text goes on up to the first `@` or bar.
use Rattle.std.proofs.Common.{◌≡◌, ℕ, zero, suc, ◌+◌, ◌<◌, ◌≤◌, Bool, true, false, not, List, [], ◌∷◌, length}
use Rattle.std.proofs.Common.{slice_index, refl, ap, arith, if◌then◌else◌}
use Rattle.std.proofs.lemmas.Bool.Decides.{nat_tests}
use Rattle.memchr.specs.Find.{Nowhere, NoneBefore, Passes, is_byte2}
use Rattle.cw_rules.specs.declared.{classes.Class.Class, classes.Class.TheVariants.TexText}
use Rattle.cw_rules.specs.Bytes.{is_in, run}

-- a run ends at the first byte of another class, or with the bytes
run-first : (class : Class) (bytes : List ℕ) (n : ℕ) → n ≤ length bytes → ((k : ℕ) → k < n → is_in class
    (slice_index bytes k) ≡ true) → (n < length bytes → is_in class (slice_index bytes n) ≡ false) → run class bytes ≡ n
run-first class [] zero h inside stop = refl
run-first class [] (suc n) h inside stop = absurd (omega arith)
run-first class (b ∷ bs) zero h inside stop = grind (arith, nat_tests)
run-first class (b ∷ bs) (suc n) h inside stop =
    let rest : run class bs ≡ n = run-first class bs n (omega arith) (λ k low. inside (suc k) (omega arith))
    (λ within. stop (omega arith)) in
    let more : run class (b ∷ bs) ≡ 1 + run class bs = ap (λ t. if t then 1 + run class bs else 0)
    (inside 0 (omega arith)) in
    omega arith

untrue : (t : Bool) → ¬ (t ≡ true) → not t ≡ true
untrue t h = grind arith

pub tex-first : (bytes : List ℕ) (n : ℕ) → NoneBefore (Passes (is_byte2 64 124) bytes) 0 (length bytes) n
    → is_byte2 64 124 (slice_index bytes n) ≡ true → run TexText bytes ≡ n
tex-first bytes n first here = run-first TexText bytes n (omega (arith, first.high))
    (λ k low. untrue (is_byte2 64 124 (slice_index bytes k)) (first.before k (omega arith) low)) (λ within. ap not here)

pub tex-all : (bytes : List ℕ) → Nowhere (Passes (is_byte2 64 124) bytes) 0 (length bytes) → run TexText bytes
    ≡ length bytes
tex-all bytes none = grind (arith, nat_tests, run-first, untrue)
