-- A state on the way to the normal form.
use Rattle.std.specs.Prelude.{◌≡◌, ℕ, ◌≤◌, List}
use Rattle.cw_base.specs.declared.flags.Flags.{Flags}
use Rattle.cw_table.specs.declared.types.Row.{Row}
use Rattle.cw_table.specs.Rewriting.{State}
use Rattle.cw_table.specs.Normal.{weight, steps, count}

-- The new state is the old one after so many leftmost-first productions, and this is the one number that gives its
-- weight.
pub record IsAfter (rows : List Row) (flags : Flags) (old new : State) : Type 0 where
  pub number : ℕ
  pub within : number ≤ count rows flags old
  pub is : new ≡ steps rows flags number old
  pub only : (other : ℕ) → other ≤ count rows flags old → weight (steps rows flags other old).scraps ≡ weight new.scraps
      → other ≡ number
