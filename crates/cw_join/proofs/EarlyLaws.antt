-- What is printed early, item by item, and what is left for the end.
use Rattle.cw_join.proofs.Terms.{◌≡◌, ℕ, Bool, refl, ap, sym, ◌∙◌, List, [], ◌∷◌, ◌++◌, Option, Some, None, fold, drop}
use Rattle.cw_join.proofs.Terms.{length, append-nil, append_assoc, Control, Item, Printable, run_sign, run_bytes}
use Rattle.cw_join.proofs.Terms.{opened, Stretch, Other, with_control, stretches, stretch_bytes, printed_list, is_inner}
use Rattle.cw_join.proofs.Terms.{early_bytes, early, late, added, run_back, run_front, run_with, depth_behind, last_run}
use Rattle.cw_join.proofs.Terms.{arith}
use Rattle.cw_join.proofs.RunLaws.{run_before, one-more, run-parts, front-append, early-ends, early-goes_on, all-ends}
use Rattle.cw_join.proofs.RunLaws.{all-goes_on, front-none}

-- what one item more prints, behind a run and where so many inner texts are open
abbrev pub step_of : Option Control → Bool → ℕ → List Control → Printable → List ℕ
step_of (Some control) inner depth run p = run_front (is_inner inner depth) (control ∷ [])
step_of None inner depth run p = run_back (is_inner inner depth) run ++ p.bytes

abbrev depth_from : ℕ → List Printable → ℕ
depth_from depth ps = fold (λ depth p. opened depth p.item) depth ps

abbrev run_from : List Control → List Printable → List Control
run_from run ps = fold run_with run ps

abbrev early_from : Bool → ℕ → List Control → List Printable → List ℕ
early_from inner depth run [] = []
early_from inner depth run (p ∷ ps) = step_of (run_sign p.item) inner depth run p
    ++ early_from inner (opened depth p.item) (run_with run p) ps

pub same-depth : (depth : ℕ) (item : Item) (control : Control) → run_sign item ≡ Some control → opened depth item
    ≡ depth
same-depth depth item control is = grind arith

early_from-more : (inner : Bool) (depth : ℕ) (run : List Control) (ps : List Printable) (p : Printable)
    → early_from inner depth run (ps ++ p ∷ []) ≡ early_from inner depth run ps ++ step_of (run_sign p.item) inner
    (depth_from depth ps) (run_from run ps) p
early_from-more inner depth run [] p = append-nil (step_of (run_sign p.item) inner depth run p)
early_from-more inner depth run (q ∷ ps) p = ap (λ (l : List ℕ). step_of (run_sign q.item) inner depth run q ++ l)
    (early_from-more inner (opened depth q.item) (run_with run q) ps p)
    ∙ sym (append_assoc (step_of (run_sign q.item) inner depth run q) (early_from inner (opened depth q.item)
    (run_with run q) ps) (step_of (run_sign p.item) inner (depth_from depth (q ∷ ps)) (run_from run (q ∷ ps)) p))

-- behind a run
module _ (inner : Bool) where
  abbrev EarlyIs : List Printable → Type 0
  EarlyIs ps = (depth : ℕ) (run : List Control) → early_bytes inner depth (run_before run (stretches ps))
      ≡ run_front (is_inner inner depth) run ++ early_from inner depth run ps

  abbrev cut : Option Control → Printable → List Stretch → List Stretch
  cut sign p ss = elim sign [ Some control ↦ with_control control ss | None ↦ Other p ∷ ss ]

  abbrev run_on : Option Control → List Control → List Control
  run_on sign run = elim sign [ Some control ↦ run ++ control ∷ [] | None ↦ [] ]

  early-step : (p : Printable) (ps : List Printable) (sign : Option Control) → run_sign p.item ≡ sign → EarlyIs ps
      → (depth : ℕ) (run : List Control)
      → early_bytes inner depth (run_before run (cut sign p (stretches ps))) ≡ run_front (is_inner inner depth) run
      ++ (step_of sign inner depth run p ++ early_from inner (opened depth p.item) (run_on sign run) ps)
  early-step p ps (Some control) is rest depth run = ap (early_bytes inner depth) (sym (one-more run control (stretches
      ps))) ∙ rest depth (run ++ control ∷ []) ∙ ap (λ (l : List ℕ). l ++ early_from inner depth (run ++ control ∷ [])
      ps) (front-append (is_inner inner depth) run (control ∷ [])) ∙ append_assoc (run_front (is_inner inner depth) run)
      (run_front (is_inner inner depth) (control ∷ [])) (early_from inner depth (run ++ control ∷ []) ps)
      ∙ ap (λ (d : ℕ). run_front (is_inner inner depth) run ++ (run_front (is_inner inner depth)
      (control ∷ []) ++ early_from inner d (run ++ control ∷ []) ps)) (sym (same-depth depth p.item control is))
  early-step p ps None is rest depth run =
      let b : Bool = is_inner inner depth in
      let later : List ℕ = early_from inner (opened depth p.item) [] ps in
      early-goes_on inner depth run p (stretches ps) ∙ ap (λ (l : List ℕ). run_bytes b run ++ (p.bytes ++ l)) (rest
      (opened depth p.item) [] ∙ ap (λ (l : List ℕ). l ++ later) (front-none (is_inner inner (opened depth p.item))))
      ∙ ap (λ (l : List ℕ). l ++ (p.bytes ++ later)) (run-parts b run) ∙ append_assoc (run_front b run) (run_back b run)
      (p.bytes ++ later) ∙ ap (λ (l : List ℕ). run_front b run ++ l) (sym (append_assoc (run_back b run) p.bytes later))

  early-is : (ps : List Printable) → EarlyIs ps
  early-is [] depth run = early-ends inner depth run ∙ sym (append-nil (run_front (is_inner inner depth) run))
  early-is (p ∷ ps) depth run = early-step p ps (run_sign p.item) refl (early-is ps) depth run

  abbrev AllIs : List Printable → Type 0
  AllIs ps = (depth : ℕ) (run : List Control) → stretch_bytes inner depth (run_before run (stretches ps))
      ≡ run_front (is_inner inner depth) run ++ (early_from inner depth run ps
      ++ run_back (is_inner inner (depth_from depth ps)) (run_from run ps))

  all-step : (p : Printable) (ps : List Printable) (sign : Option Control) → run_sign p.item ≡ sign → AllIs ps
      → (depth : ℕ) (run : List Control)
      → stretch_bytes inner depth (run_before run (cut sign p (stretches ps))) ≡ run_front (is_inner inner depth) run
      ++ ((step_of sign inner depth run p ++ early_from inner (opened depth p.item) (run_on sign run) ps) ++ run_back
      (is_inner inner (depth_from (opened depth p.item) ps)) (run_from (run_on sign run) ps))
  all-step p ps (Some control) is rest depth run =
      let b : Bool = is_inner inner depth in
      let one : List ℕ = run_front b (control ∷ []) in
      let later : ℕ → List ℕ = λ d. early_from inner d (run ++ control ∷ []) ps in
      let back : ℕ → List ℕ = λ d. run_back (is_inner inner (depth_from d ps)) (run_from (run ++ control ∷ []) ps) in
      ap (stretch_bytes inner depth) (sym (one-more run control (stretches ps))) ∙ rest depth (run ++ control ∷ [])
      ∙ ap (λ (l : List ℕ). l ++ (later depth ++ back depth)) (front-append b run (control ∷ []))
      ∙ append_assoc (run_front b run) one (later depth ++ back depth)
      ∙ ap (λ (l : List ℕ). run_front b run ++ l) (sym (append_assoc one (later depth) (back depth)))
      ∙ ap (λ (d : ℕ). run_front b run ++ ((one ++ later d) ++ back d)) (sym (same-depth depth p.item control is))
  all-step p ps None is rest depth run =
      let b : Bool = is_inner inner depth in
      let later : List ℕ = early_from inner (opened depth p.item) [] ps in
      let back : List ℕ = run_back (is_inner inner (depth_from (opened depth p.item) ps)) (run_from [] ps) in
      all-goes_on inner depth run p (stretches ps) ∙ ap (λ (l : List ℕ). run_bytes b run ++ (p.bytes ++ l))
      (rest (opened depth p.item) [] ∙ ap (λ (l : List ℕ). l ++ (later ++ back))
      (front-none (is_inner inner (opened depth p.item)))) ∙ ap (λ (l : List ℕ). l ++ (p.bytes ++ (later ++ back)))
      (run-parts b run) ∙ append_assoc (run_front b run) (run_back b run) (p.bytes ++ (later ++ back))
      ∙ ap (λ (l : List ℕ). run_front b run ++ l) (sym (append_assoc (run_back b run) p.bytes (later ++ back))
      ∙ sym (append_assoc (run_back b run ++ p.bytes) later back))

  all-is : (ps : List Printable) → AllIs ps
  all-is [] depth run = all-ends inner depth run ∙ run-parts (is_inner inner depth) run
  all-is (p ∷ ps) depth run = all-step p ps (run_sign p.item) refl (all-is ps) depth run

early-whole : (inner : Bool) (ps : List Printable) → early inner ps ≡ early_from inner 0 [] ps
early-whole inner ps = early-is inner ps 0 [] ∙ ap (λ (l : List ℕ). l ++ early_from inner 0 [] ps)
    (front-none (is_inner inner 0))

-- One item more prints what its step prints.
early-more : (inner : Bool) (ps : List Printable) (p : Printable) → early inner (ps ++ p ∷ [])
    ≡ early inner ps ++ step_of (run_sign p.item) inner (depth_behind ps) (last_run ps) p
early-more inner ps p = early-whole inner (ps ++ p ∷ []) ∙ early_from-more inner 0 [] ps p ∙ ap (λ (l : List ℕ). l
    ++ step_of (run_sign p.item) inner (depth_behind ps) (last_run ps) p) (sym (early-whole inner ps))

drop-behind : (xs ys : List ℕ) → drop (length xs) (xs ++ ys) ≡ ys
drop-behind [] ys = refl
drop-behind (x ∷ xs) ys = drop-behind xs ys

pub added-is : (inner : Bool) (ps : List Printable) (p : Printable) → added inner ps p
    ≡ step_of (run_sign p.item) inner (depth_behind ps) (last_run ps) p
added-is inner ps p = grind (arith, early-more, drop-behind)

-- What is printed early with one item more.
pub early-added : (inner : Bool) (ps : List Printable) (p : Printable) → early inner (ps ++ p ∷ [])
    ≡ early inner ps ++ added inner ps p
early-added inner ps p = grind (arith, early-more, added-is)

-- What is printed early and what is printed late are all.
pub printed-is : (inner : Bool) (ps : List Printable) → printed_list inner ps ≡ early inner ps ++ late inner ps
printed-is inner ps = all-is inner ps 0 [] ∙ ap (λ (l : List ℕ). l ++ (early_from inner 0 [] ps ++ late inner ps))
    (front-none (is_inner inner 0)) ∙ ap (λ (l : List ℕ). l ++ late inner ps) (sym (early-whole inner ps))

-- What an item that is in no run prints behind its own bytes comes last.
pub added-behind : (inner : Bool) (ps : List Printable) (item : Item) (own more : List ℕ) → run_sign item ≡ None
    → added inner ps (record { item = item; bytes = own ++ more })
    ≡ added inner ps (record { item = item; bytes = own }) ++ more
added-behind inner ps item own more is =
    let step : List ℕ → Option Control → List ℕ =
    λ bytes o. step_of o inner (depth_behind ps) (last_run ps) (record { item = item; bytes = bytes }) in
    added-is inner ps (record { item = item; bytes = own ++ more }) ∙ ap (step (own ++ more)) is
    ∙ sym (append_assoc (run_back (is_inner inner (depth_behind ps)) (last_run ps)) own more)
    ∙ ap (λ (l : List ℕ). l ++ more) (sym (added-is inner ps (record { item = item; bytes = own }) ∙ ap (step own) is))
