-- What contracts see of a `Joiner`, and the lists for which it stands.
use Rattle.std.specs.Prelude.{◌≡◌, ℕ, Bool, List}
use Rattle.cw_trees.specs.Printing.{Printable}
use Rattle.cw_join.specs.Early.{depth_behind, last_run}
use Rattle.cw_join.specs.Runs.{RunState, run_state}

-- whether it prints inner C text, how many inner texts are open, and what it keeps of the run that may go on
pub record JoinerState : Type 0 where
  pub inner : Bool
  pub depth : ℕ
  pub run : RunState

-- Its values are those that the list leaves.
pub record Stands (joiner : JoinerState) (ps : List Printable) : Type 0 where
  pub depth : joiner.depth ≡ depth_behind ps
  pub run : joiner.run ≡ run_state (last_run ps)
