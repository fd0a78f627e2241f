-- What is joined of pieces that can stand where they stand is braced.
use Rattle.cw_brace_laws.proofs.Terms.{◌≡◌, ℕ, Option, Some, None, IfSome, List, [], ◌∷◌, refl, ap, ◌∙◌, subst, arith}
use Rattle.cw_brace_laws.proofs.Terms.{MathMode, JoinPiece, Whole, Mark, needs, after, first_mode, joined_tree}
use Rattle.cw_brace_laws.proofs.Terms.{joined_left, joined_right, Control, leads_on, sign_depth, depth_of, EndsAt}
use Rattle.cw_brace_laws.proofs.Terms.{StandsAt, nat_tests}
use Rattle.cw_brace_laws.proofs.Depths.{ends-maybe, first-ends, after-ends}

-- it leads somewhere, and there this holds
abbrev pub Then_ : Option ℕ → (ℕ → Type 0) → Type 0
Then_ None P = ⊥
Then_ (Some depth) P = P depth

-- pieces lead from a depth to an end
abbrev pub Lead : ℕ → ℕ → List JoinPiece → Type 0
Lead e d [] = d ≡ e
Lead e d (Whole tree left right ∷ js) = StandsAt d tree left right × Lead e d js
Lead e d (Mark control ∷ js) = Then_ (sign_depth control d) (λ n. Lead e n js)

-- ## Controls

-- the first mode of a control and of what follows
sign-first : (c : Control) (d : ℕ) (later : MathMode) → Then_ (sign_depth c d) (λ n. EndsAt n later)
    → EndsAt d (first_mode (needs c) later)
sign-first c d later h = grind (arith, nat_tests)

-- ## Pieces

pub record Led (e d : ℕ) (m : MathMode) (js : List JoinPiece) : Type 0 where
  pub tree : depth_of (joined_tree m js) d ≡ Some e
  pub ends : EndsAt e (joined_right m js)

pub led : (e d : ℕ) (m : MathMode) (js : List JoinPiece) → Lead e d js → EndsAt d m → Led e d m js
led e d m [] h f = record { tree = ap Some h; ends = subst (λ n. EndsAt n m) h f }
led e d m (Whole tree l r ∷ js) h f =
    grind (arith, nat_tests, led e d (after m l r) js h.1 (after-ends d m l r f h.0.ends), after-ends)
led e d m (Mark c ∷ js) h f = go (sign_depth c d)
    refl h (grind (arith, nat_tests)) (grind (arith, nat_tests)) (λ n k g. led e n (after m (needs c) (needs c)) js k g)
  where
    go : (o : Option ℕ) → sign_depth c d ≡ o → Then_ o (λ n. Lead e n js) → IfSome o (λ n. EndsAt d (needs c)) → IfSome
        o (λ n. EndsAt n (after m (needs c) (needs c))) → ((n : ℕ) → Lead e n js → EndsAt n
        (after m (needs c) (needs c)) → Led e n (after m (needs c) (needs c)) js) → Led e d m (Mark c ∷ js)
    go None is h b g rec = absurd h
    go (Some n) is h b g rec =
        let rest = rec n h g in
        record {
          tree = (grind (arith, nat_tests))
              ∙ ap (λ o. leads_on o (depth_of (joined_tree (after m (needs c) (needs c)) js))) is ∙ rest.tree;
          ends = rest.ends;
        }

pub led-left : (e d : ℕ) (js : List JoinPiece) → Lead e d js → EndsAt d (joined_left js)
led-left e d [] h = ends-maybe d
led-left e d (Whole tree l r ∷ js) h = first-ends d l (joined_left js) h.0.begins (led-left e d js h.1)
led-left e d (Mark c ∷ js) h = sign-first c d (joined_left js) (go (sign_depth c d) h (λ n k. led-left e n js k))
  where
    go : (o : Option ℕ) → Then_ o (λ n. Lead e n js) → ((n : ℕ) → Lead e n js → EndsAt n (joined_left js))
        → Then_ o (λ n. EndsAt n (joined_left js))
    go None h rec = h
    go (Some n) h rec = rec n h

-- a piece, and those behind it
abbrev pub JoinedStands : ℕ → JoinPiece → Type 0
JoinedStands d (Whole tree left right) = StandsAt d tree left right
JoinedStands d (Mark control) = sign_depth control d ≡ Some d

pub lead-on : (e d : ℕ) (j : JoinPiece) (js : List JoinPiece) → JoinedStands d j → Lead e d js → Lead e d (j ∷ js)
lead-on e d j js h rest = grind (arith, nat_tests)
