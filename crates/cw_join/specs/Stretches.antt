-- Printed text: a list is cut into its longest runs and its other items, and each is printed, in order.
use Rattle.std.specs.Prelude.{ℕ, ◌||◌, Bool, nat_lt, List, [], ◌∷◌, ◌++◌, Some, None}
use Rattle.cw_trees.specs.declared.Control.{Control}
use Rattle.cw_trees.specs.Printing.{Printable, run_bytes, run_sign, opened}

pub data Stretch : Type 0 where
  Run : (controls : List Control) → Stretch
  Other : (printable : Printable) → Stretch

-- a control goes into the run that begins behind it, where one does
abbrev pub with_control : Control → List Stretch → List Stretch
with_control control [] = Run (control ∷ []) ∷ []
with_control control (Run run ∷ stretches) = Run (control ∷ run) ∷ stretches
with_control control (Other p ∷ stretches) = Run (control ∷ []) ∷ Other p ∷ stretches

abbrev pub stretches : List Printable → List Stretch
stretches [] = []
stretches (p ∷ ps) = elim (run_sign p.item) [
  | Some control ↦ with_control control (stretches ps)
  | None ↦ Other p ∷ stretches ps
]

-- whether a run is one of inner C text: all of the list is, or it stands between brackets
abbrev pub is_inner : Bool → ℕ → Bool
is_inner inner depth = inner || nat_lt 0 depth

-- the bytes of stretches, where `depth` inner texts are open
abbrev pub stretch_bytes : Bool → ℕ → List Stretch → List ℕ
stretch_bytes inner depth [] = []
stretch_bytes inner depth (Run run ∷ rest) = run_bytes (is_inner inner depth) run ++ stretch_bytes inner depth rest
stretch_bytes inner depth (Other p ∷ rest) = p.bytes ++ stretch_bytes inner (opened depth p.item) rest

-- The bytes of a trimmed list, as inner C text or as that of a part or a definition.
abbrev pub printed_list : Bool → List Printable → List ℕ
printed_list inner ps = stretch_bytes inner 0 (stretches ps)
