-- A file has one first line that no log has, at most, and none where it is a log.
use Rattle.cw_logs.proofs.Terms.{◌≡◌, ℕ, zero, suc, ◌≤◌, ◌<◌, List, [], ◌∷◌, ◌++◌, length, take, refl, arith}
use Rattle.cw_logs.proofs.Terms.{append_assoc, nat_tests, common_steps, IsFault, IsFaultAt, IsLog, wrong, cut_off}

record Longer (lines : List (List ℕ)) (m n : ℕ) : Type 0 where
  more : List (List ℕ)
  is : take n lines ≡ take m lines ++ more

longer : (lines : List (List ℕ)) (m n : ℕ) → m ≤ n → Longer lines m n
longer lines zero n le = record { more = take n lines; is = refl }
longer lines (suc m) zero le = absurd (omega (arith, le))
longer [] (suc m) (suc n) le = record { more = []; is = refl }
longer (l ∷ ls) (suc m) (suc n) le = grind (arith, longer ls m n (omega (arith, le)))

fault-within : (lines : List (List ℕ)) (n : ℕ) → IsFault lines n → n ≤ length lines
fault-within lines n h = grind arith

earlier-fault : (lines : List (List ℕ)) (m n : ℕ) → m < n → IsFault lines m → IsFault lines n → ⊥
earlier-fault lines m n lt (wrong l b none) f =
    none (grind (arith, nat_tests, common_steps, longer lines (suc m) n (omega (arith, lt)), longer, append_assoc))
earlier-fault lines m n lt (cut_off last b none) f = omega (arith, lt, last, fault-within lines n f)

fault-log : (lines : List (List ℕ)) (n : ℕ) → IsFault lines n → IsLog lines → ⊥
fault-log lines n (wrong lt b none) is = none (grind
    (arith, nat_tests, common_steps, longer lines (suc n) (length lines) (omega (arith, lt)), longer, append_assoc))
fault-log lines n (cut_off last b none) is = none is

-- the first line that no log has is one
pub fault-same : (lines : List (List ℕ)) (first second : ℕ) → IsFaultAt lines first → IsFaultAt lines second
    → first ≡ second
fault-same lines first second f g =
    let not_less : f.good < g.good → ⊥ = λ lt. earlier-fault lines f.good g.good lt f.fault g.fault in
    let not_more : g.good < f.good → ⊥ = λ lt. earlier-fault lines g.good f.good lt g.fault f.fault in
    omega (arith, f.next, g.next, not_less, not_more)

pub fault-no-log : (lines : List (List ℕ)) (line : ℕ) → IsFaultAt lines line → IsLog lines → ⊥
fault-no-log lines line f is = fault-log lines f.good f.fault is
