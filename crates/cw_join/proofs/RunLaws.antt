-- Controls before stretches, the first of which may be a run that they lengthen.
use Rattle.cw_join.proofs.Terms.{◌≡◌, ℕ, Bool, refl, ap, sym, ◌∙◌, List, [], ◌∷◌, ◌++◌, append-nil, append_assoc}
use Rattle.cw_join.proofs.Terms.{Control, Printable, indents, run_bytes, opened, Stretch, Run, Other, with_control}
use Rattle.cw_join.proofs.Terms.{stretch_bytes, is_inner, early_bytes, run_back, run_front, arith}

abbrev pub run_before : List Control → List Stretch → List Stretch
run_before [] ss = ss
run_before (control ∷ run) ss = with_control control (run_before run ss)

pub one-more : (run : List Control) (control : Control) (ss : List Stretch) → run_before (run ++ control ∷ []) ss
    ≡ run_before run (with_control control ss)
one-more [] control ss = refl
one-more (first ∷ run) control ss = ap (with_control first) (one-more run control ss)

before-none : (control : Control) (run : List Control) → run_before (control ∷ run) [] ≡ Run (control ∷ run) ∷ []
before-none control [] = refl
before-none control (next ∷ run) = ap (with_control control) (before-none next run)

before-other : (control : Control) (run : List Control) (p : Printable) (ss : List Stretch)
    → run_before (control ∷ run) (Other p ∷ ss) ≡ Run (control ∷ run) ∷ Other p ∷ ss
before-other control [] p ss = refl
before-other control (next ∷ run) p ss = ap (with_control control) (before-other next run p ss)

-- the two parts of a run
pub run-parts : (inner : Bool) (run : List Control) → run_bytes inner run ≡ run_front inner run ++ run_back inner run
run-parts inner run = grind arith

pub run-none : (inner : Bool) → run_bytes inner [] ≡ []
run-none inner = grind arith

pub front-none : (inner : Bool) → run_front inner [] ≡ []
front-none inner = grind arith

indents-append : (xs ys : List Control) → indents (xs ++ ys) ≡ indents xs ++ indents ys
indents-append [] ys = refl
indents-append (x ∷ xs) ys = grind (arith, indents-append xs ys, append_assoc)

pub front-append : (inner : Bool) (xs ys : List Control) → run_front inner (xs ++ ys)
    ≡ run_front inner xs ++ run_front inner ys
front-append inner xs ys = grind (arith, indents-append)

-- a run, and then nothing more or an item that ends it
module _ (inner : Bool) (depth : ℕ) where
  pub early-ends : (run : List Control) → early_bytes inner depth (run_before run [])
      ≡ run_front (is_inner inner depth) run
  early-ends [] = sym (front-none (is_inner inner depth))
  early-ends (control ∷ run) = ap (early_bytes inner depth) (before-none control run)

  pub early-goes_on : (run : List Control) (p : Printable) (ss : List Stretch) → early_bytes inner depth (run_before run
      (Other p ∷ ss)) ≡ run_bytes (is_inner inner depth) run ++ (p.bytes ++ early_bytes inner (opened depth p.item) ss)
  early-goes_on [] p ss = ap (λ (run : List ℕ). run ++ (p.bytes ++ early_bytes inner (opened depth p.item) ss))
      (sym (run-none (is_inner inner depth)))
  early-goes_on (control ∷ run) p ss = ap (early_bytes inner depth) (before-other control run p ss)

  pub all-ends : (run : List Control) → stretch_bytes inner depth (run_before run [])
      ≡ run_bytes (is_inner inner depth) run
  all-ends [] = sym (run-none (is_inner inner depth))
  all-ends (control ∷ run) = ap (stretch_bytes inner depth) (before-none control run)
      ∙ append-nil (run_bytes (is_inner inner depth) (control ∷ run))

  pub all-goes_on : (run : List Control) (p : Printable) (ss : List Stretch)
      → stretch_bytes inner depth (run_before run (Other p ∷ ss)) ≡ run_bytes (is_inner inner depth) run
      ++ (p.bytes ++ stretch_bytes inner (opened depth p.item) ss)
  all-goes_on [] p ss = ap (λ (run : List ℕ). run ++ (p.bytes ++ stretch_bytes inner (opened depth p.item) ss))
      (sym (run-none (is_inner inner depth)))
  all-goes_on (control ∷ run) p ss = ap (stretch_bytes inner depth) (before-other control run p ss)
