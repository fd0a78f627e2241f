-- The inside of an include name ends before its sign, which no byte takes along.
use Rattle.std.proofs.Common.{◌≡◌, ℕ, zero, suc, ◌+◌, ◌≤◌, Bool, true, false, ◌&&◌, not, ◌==◌, List, [], ◌∷◌, drop}
use Rattle.std.proofs.Common.{refl, sym, ap, ◌∙◌, arith}
use Rattle.std.proofs.{lemmas.Bool.eqb-true, lemmas.Bool.Decides.nat_tests}
use Rattle.cw_rules.specs.{declared.bodies.Inside.Inside, Bytes.greater, Bytes.at_sign, Bytes.begins}
use Rattle.cw_rules.specs.Bodies.{takes_next, goes_on, stepped, ended}
use Rattle.cw_rules.specs.declared.bodies.Body.TheVariants as bodies

-- The inside of an include name ends before `>`, which no byte takes along.
pub greater-stops : (i : Inside) (bs : List ℕ) (n : ℕ) → i.body ≡ bodies.IncludeName
    → (i.along ≡ true → begins at_sign bs ≡ true) → begins greater (drop n bs) ≡ true → (ended i bs).place ≤ i.place + n
greater-stops i [] zero body along h = absurd cc
greater-stops i [] (suc n) body along h = absurd cc
greater-stops i (b ∷ bs) zero body along h = grind (arith, nat_tests, eqb-true)
greater-stops i (b ∷ bs) (suc n) body along h = by (goes_on i (b ∷ bs)) refl
    (greater-stops (stepped i b bs) bs n body takes h)
  where
    second : (a b c : Bool) → (a && (b && c)) ≡ true → c ≡ true
    second true true c k = k
    second true false c k = absurd cc
    second false b c k = absurd cc

    takes : (not i.along && takes_next i.body b bs) ≡ true → begins at_sign bs ≡ true
    takes k = second (not i.along) (b == at_sign) (begins at_sign bs)
        (sym (ap (λ x. not i.along && takes_next x b bs) body) ∙ k)

    by : (t : Bool) → goes_on i (b ∷ bs) ≡ t → (ended (stepped i b bs) bs).place ≤ (i.place + 1) + n
        → (ended i (b ∷ bs)).place ≤ i.place + suc n
    by t e rec = grind (arith, nat_tests)
