-- A list printed by its longest runs prints as it does item by item.
use Rattle.cw_join.proofs.Terms.{◌≡◌, ℕ, Bool, ap, sym, ◌∙◌, List, [], ◌∷◌, ◌++◌, Option, Some, None, Control}
use Rattle.cw_join.proofs.Terms.{Printable, printed, printed_from, run_sign, run_bytes, opened, Other, with_control}
use Rattle.cw_join.proofs.Terms.{stretches, stretch_bytes, printed_list, is_inner}
use Rattle.cw_join.proofs.RunLaws.{run_before, one-more, all-ends, all-goes_on}

module _ (inner : Bool) where
  abbrev Same : List Printable → Type 0
  Same ps = (depth : ℕ) (run : List Control) → printed_from inner depth run ps
      ≡ stretch_bytes inner depth (run_before run (stretches ps))

  step : (p : Printable) (ps : List Printable) (sign : Option Control) → Same ps → (depth : ℕ) (run : List Control)
      → (elim sign [
        | Some control ↦ printed_from inner depth (run ++ control ∷ []) ps
        | None ↦ run_bytes
            (is_inner inner depth) run ++ (p.bytes ++ printed_from inner (opened depth p.item) [] ps)
      ])
      ≡ stretch_bytes inner depth (run_before run
      (elim sign [ Some control ↦ with_control control (stretches ps) | None ↦ Other p ∷ stretches ps ]))
  step p ps (Some control) rest depth run = rest depth (run ++ control ∷ [])
      ∙ ap (stretch_bytes inner depth) (one-more run control (stretches ps))
  step p ps None rest depth run = ap (λ (later : List ℕ). run_bytes (is_inner inner depth) run ++ (p.bytes ++ later))
      (rest (opened depth p.item) []) ∙ sym (all-goes_on inner depth run p (stretches ps))

  same : (ps : List Printable) → Same ps
  same [] depth run = sym (all-ends inner depth run)
  same (p ∷ ps) depth run = step p ps (run_sign p.item) (same ps) depth run

pub printed-list : (inner : Bool) (ps : List Printable) → printed inner ps ≡ printed_list inner ps
printed-list inner ps = same inner ps 0 []
