-- What is printed of a list to which more may come, and what is printed when nothing more comes.
use Rattle.std.specs.Prelude.{ℕ, ◌++◌, Bool, true, false, List, [], ◌∷◌, Some, None, length, drop, fold, if◌then◌else◌}
use Rattle.std.specs.Prelude.{codes, nat_lt}
use Rattle.std.specs.List.{list_any}
use Rattle.cw_trees.specs.declared.Control.{Control}
use Rattle.cw_trees.specs.Printing.{Printable, break_bytes, indents, is_cancel, opened, run_bytes, run_sign, strongest}
use Rattle.cw_trees.specs.Printing.{is_backup}
use Rattle.cw_join.specs.Stretches.{Stretch, Run, Other, stretches, is_inner}
use Rattle.cw_base.specs.Conditions.{list_if}

-- what a run prints at once: its indents, which are left out in inner C text
abbrev pub run_front : Bool → List Control → List ℕ
run_front early run = if early then [] else indents run

-- what it prints when it has ended: its break or blank and its backup, which a Cancel takes away
abbrev pub run_back : Bool → List Control → List ℕ
run_back true run = if list_any is_cancel run then [] else list_if (nat_lt 0 (strongest run)) (codes " ")
run_back false run =
    if list_any is_cancel run then [] else break_bytes (strongest run) ++ list_if (list_any is_backup run) (codes "\\4")

-- The bytes of stretches, but for what the run with which they end, if they end with one, prints when it has ended.
abbrev pub early_bytes : Bool → ℕ → List Stretch → List ℕ
early_bytes inner depth [] = []
early_bytes inner depth (Run run ∷ []) = run_front (is_inner inner depth) run
early_bytes inner depth (Run run ∷ next ∷ rest) =
    run_bytes (is_inner inner depth) run ++ early_bytes inner depth (next ∷ rest)
early_bytes inner depth (Other p ∷ rest) = p.bytes ++ early_bytes inner (opened depth p.item) rest

abbrev pub early : Bool → List Printable → List ℕ
early inner ps = early_bytes inner 0 (stretches ps)

-- how many inner texts are open behind a list
abbrev pub depth_behind : List Printable → ℕ
depth_behind ps = fold (λ depth p. opened depth p.item) 0 ps

-- the run with which a list ends: the controls behind its last other item
abbrev pub run_with : List Control → Printable → List Control
run_with run p = elim (run_sign p.item) [ Some control ↦ run ++ control ∷ [] | None ↦ [] ]

abbrev pub last_run : List Printable → List Control
last_run ps = fold run_with [] ps

-- what is still to be printed when nothing more comes
abbrev pub late : Bool → List Printable → List ℕ
late inner ps = run_back (is_inner inner (depth_behind ps)) (last_run ps)

-- what a list prints early with one item more, behind what it prints early without
abbrev pub added : Bool → List Printable → Printable → List ℕ
added inner ps p = drop (length (early inner ps)) (early inner (ps ++ p ∷ []))
