-- A walk with a pointer: it goes on where no row fits at its place, and after a production it goes back a little.
use Rattle.std.specs.Prelude.{ℕ, zero, suc, ◌+◌, ◌-◌, ◌*◌, nat_lt, Some, None, List, [], ◌∷◌, length, drop}
use Rattle.std.specs.Prelude.{if◌then◌else◌}
use Rattle.cw_base.specs.declared.flags.Flags.{Flags}
use Rattle.cw_table.specs.declared.types.Row.{Row}
use Rattle.cw_table.specs.Fitting.{first_of}
use Rattle.cw_table.specs.Rewriting.{State, rewrite, cats_of}
use Rattle.cw_table.specs.Normal.{weight, Production}

-- Each turn lowers this number: a production lowers the weight, and goes back at most three places.
abbrev pub walk_left : ℕ → State → ℕ
walk_left place state = 4 * weight state.scraps + (length state.scraps - place)

abbrev pub walk_of : List Row → Flags → (Row → ℕ) → ℕ → ℕ → State → List Production
walk_of rows flags back zero place state = []
walk_of rows flags back (suc n) place state =
    if nat_lt place (length state.scraps) then elim (first_of rows (drop place (cats_of state.scraps))) [
      | None ↦ walk_of rows flags back n (suc place) state
      | Some row ↦ record { number = row.number.number; place = place } ∷ walk_of rows flags back n (place - back row)
          (rewrite flags row place state)
    ]
    else []

-- the productions of the walk from a place on, where `back` says how far to go back after each row
unfoldable pub walk_log : List Row → Flags → (Row → ℕ) → ℕ → State → List Production
walk_log rows flags back place state = walk_of rows flags back (suc (walk_left place state)) place state

-- where the walk stands at a turn
pub record Position : Type 0 where
  pub place : ℕ
  pub state : State

abbrev pub positions_of : List Row → Flags → (Row → ℕ) → ℕ → ℕ → State → List Position
positions_of rows flags back zero place state = []
positions_of rows flags back (suc n) place state =
    if nat_lt place (length state.scraps) then elim (first_of rows (drop place (cats_of state.scraps))) [
      | None ↦ record { place = place; state = state } ∷ positions_of rows flags back n (suc place) state
      | Some row ↦ record { place = place; state = state } ∷ positions_of rows flags back n (place - back row)
          (rewrite flags row place state)
    ]
    else []

-- the turns that the walk takes from a place on, those that rewrite and those that go on
unfoldable pub positions : List Row → Flags → (Row → ℕ) → ℕ → State → List Position
positions rows flags back place state = positions_of rows flags back (suc (walk_left place state)) place state

-- and how many they are
abbrev pub turns : List Row → Flags → (Row → ℕ) → ℕ → State → ℕ
turns rows flags back place state = length (positions rows flags back place state)

abbrev pub walked_of : List Row → Flags → (Row → ℕ) → ℕ → ℕ → State → State
walked_of rows flags back zero place state = state
walked_of rows flags back (suc n) place state =
    if nat_lt place (length state.scraps) then elim (first_of rows (drop place (cats_of state.scraps))) [
      | None ↦ walked_of rows flags back n (suc place) state
      | Some row ↦ walked_of rows flags back n (place - back row) (rewrite flags row place state)
    ]
    else state

-- what the walk ends in
unfoldable pub walked : List Row → Flags → (Row → ℕ) → ℕ → State → State
walked rows flags back place state = walked_of rows flags back (suc (walk_left place state)) place state
