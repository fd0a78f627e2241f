-- What is kept of a run.
use Rattle.std.specs.Prelude.{ℕ, Bool, List}
use Rattle.std.specs.List.{list_any}
use Rattle.cw_trees.specs.declared.Control.{Control}
use Rattle.cw_trees.specs.Printing.{is_backup, is_cancel, strength, strongest}

-- the strength of its strongest break or blank, and whether it has a Cancel and a Backup
pub record RunState : Type 0 where
  pub strength : ℕ
  pub cancelled : Bool
  pub backed : Bool

abbrev pub run_state : List Control → RunState
run_state run = record { strength = strongest run; cancelled = list_any is_cancel run; backed = list_any is_backup run }
