-- The models beside `specs/Runs`.
use Rattle.std.specs.Prelude.{ℕ, ◌++◌, ◌||◌, Bool, true, false, List, [], nat_lt, max, codes, if◌then◌else◌}
use Rattle.cw_base.specs.Conditions.{list_if}
use Rattle.cw_trees.specs.declared.Control.{Control}
use Rattle.cw_trees.specs.Printing.{break_bytes, is_backup, is_cancel, strength}
use Rattle.cw_join.specs.declared.run.Pause.{Pause}
use Rattle.cw_join.specs.declared.run.Pause.TheVariants.{Nothing, Blank, OptionalBreak, Break, BigBreak}
use Rattle.cw_join.specs.declared.run.ControlRun.{ControlRun}
use Rattle.cw_join.specs.declared.run.ControlRun.TheVariants.{Empty, Plain, Marked}
use Rattle.cw_join.specs.Runs.{RunState}

-- one control more
abbrev pub run_more : RunState → Control → RunState
run_more run control = record {
  strength = max run.strength (strength control);
  cancelled = run.cancelled || is_cancel control;
  backed = run.backed || is_backup control;
}

-- what a run prints when it has ended
abbrev pub pause_bytes : Bool → RunState → List ℕ
pause_bytes true run =
    if run.cancelled then []
    else list_if (nat_lt 0 run.strength) (codes " ")
pause_bytes false run = if run.cancelled then [] else break_bytes run.strength

abbrev pub backs : Bool → RunState → Bool
backs true run = false
backs false run = if run.cancelled then false else run.backed

abbrev pub step_bytes : Bool → List ℕ
step_bytes backed = list_if backed (codes "\\4")

abbrev pub state_back : Bool → RunState → List ℕ
state_back inner run = pause_bytes inner run ++ step_bytes (backs inner run)

-- the strength of a pause
abbrev pub strength_of : Pause → ℕ
strength_of Nothing = 0
strength_of Blank = 1
strength_of OptionalBreak = 2
strength_of Break = 3
strength_of BigBreak = 4

abbrev pub state_of : ControlRun → RunState
state_of Empty = record { strength = 0; cancelled = false; backed = false }
state_of (Plain pause) = record { strength = strength_of pause; cancelled = false; backed = false }
state_of (Marked pause cancelled backed) = record {
  strength = strength_of pause;
  cancelled = cancelled;
  backed = backed;
}
