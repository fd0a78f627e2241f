-- What a joiner keeps is what its list leaves, and what it prints is what its list prints.
use Rattle.cw_join.proofs.Terms.{◌≡◌, ℕ, Bool, false, ◌||◌, max, codes, ap, sym, ◌∙◌, List, [], ◌∷◌, ◌++◌, Option, Some}
use Rattle.cw_join.proofs.Terms.{None, arith, if◌then◌else◌, list_any, append-nil, Control, Printable, is_backup}
use Rattle.cw_join.proofs.Terms.{is_cancel, opened, run_sign, strength, strongest, is_inner, added, run_back, run_front}
use Rattle.cw_join.proofs.Terms.{run_with, depth_behind, last_run, RunState, run_more, run_state, state_back}
use Rattle.cw_join.proofs.Terms.{step_bytes, JoinerState, Stands}
use Rattle.cw_base.specs.Conditions.{list_if}
use Rattle.std.proofs.lemmas.List.Sums.{fold_push}
use Rattle.cw_join.proofs.EarlyLaws.{added-is, same-depth, step_of}

strongest-more : (run : List Control) (control : Control) → strongest (run ++ control ∷ [])
    ≡ max (strongest run) (strength control)
strongest-more [] control = omega arith
strongest-more (first ∷ run) control = let more = strongest-more run control in omega arith

any-more : (test : Control → Bool) (run : List Control) (control : Control) → list_any test (run ++ control ∷ [])
    ≡ (list_any test run || test control)
any-more test [] control = grind arith
any-more test (first ∷ run) control = grind (arith, any-more test run control)

pub state-more : (run : List Control) (control : Control) → run_state (run ++ control ∷ [])
    ≡ run_more (run_state run) control
state-more run control = λ i. record {
  strength = strongest-more run control i;
  cancelled = any-more is_cancel run control i;
  backed = any-more is_backup run control i;
}

back-by : (cancelled backed : Bool) (pause : List ℕ) → (if cancelled then [] else pause ++ list_if backed (codes "\\4"))
    ≡ (if cancelled then [] else pause) ++ step_bytes (if cancelled then false else backed)
back-by cancelled backed pause = grind arith

-- what an ended run prints is seen of its values
back-is : (inner : Bool) (run : List Control) → run_back inner run ≡ state_back inner (run_state run)
back-is inner run = grind (arith, append-nil, back-by)

-- a control more, which goes into the run
module _ (joiner : JoinerState) (ps : List Printable) (s : Stands joiner ps) (p : Printable) where
  depth-more : depth_behind (ps ++ p ∷ []) ≡ opened (depth_behind ps) p.item
  depth-more = fold_push (λ (depth : ℕ) (p : Printable). opened depth p.item) 0 ps p

  run-more : last_run (ps ++ p ∷ []) ≡ run_with (last_run ps) p
  run-more = fold_push run_with [] ps p

  run-of : (sign : Option Control) → run_sign p.item ≡ sign → last_run (ps ++ p ∷ [])
      ≡ elim sign [ Some control ↦ last_run ps ++ control ∷ [] | None ↦ [] ]
  run-of sign is = run-more ∙ ap (λ (o : Option Control). elim o [
    | Some control ↦ last_run ps ++ control ∷ []
    | None ↦ []
  ]) is

  pub control-added : (control : Control) → run_sign p.item ≡ Some control
      → run_front (is_inner joiner.inner joiner.depth) (control ∷ []) ≡ added joiner.inner ps p
  control-added control is = ap (λ (depth : ℕ). run_front (is_inner joiner.inner depth) (control ∷ [])) s.depth
      ∙ sym (added-is joiner.inner ps p
      ∙ ap (λ (o : Option Control). step_of o joiner.inner (depth_behind ps) (last_run ps) p) is)

  pub control-stands : (control : Control) → run_sign p.item ≡ Some control
      → Stands (record joiner { run = run_more joiner.run control }) (ps ++ p ∷ [])
  control-stands control is = record {
    depth = s.depth ∙ sym (depth-more ∙ same-depth (depth_behind ps) p.item control is);
    run = ap (λ (r : RunState). run_more r control) s.run ∙ sym (ap run_state (run-of (Some control) is)
        ∙ state-more (last_run ps) control);
  }

  -- any other item
  pub other-added : run_sign p.item ≡ None → state_back (is_inner joiner.inner joiner.depth) joiner.run ++ p.bytes
      ≡ added joiner.inner ps p
  other-added is = (λ i. state_back (is_inner joiner.inner (s.depth i)) (s.run i) ++ p.bytes) ∙ ap (λ (l : List ℕ). l
      ++ p.bytes) (sym (back-is (is_inner joiner.inner (depth_behind ps)) (last_run ps))) ∙ sym (added-is joiner.inner
      ps p ∙ ap (λ (o : Option Control). step_of o joiner.inner (depth_behind ps) (last_run ps) p) is)

  pub other-stands : run_sign p.item ≡ None
      → Stands (record joiner { depth = opened joiner.depth p.item; run = run_state [] }) (ps ++ p ∷ [])
  other-stands is = record {
    depth = ap (λ (depth : ℕ). opened depth p.item) s.depth ∙ sym depth-more;
    run = sym (ap run_state (run-of None is));
  }
