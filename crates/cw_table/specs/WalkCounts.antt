-- How many steps the walk counts: four at each turn, and one for each scrap to the right of the new one at each
-- production by a row that reserves.
use Rattle.std.specs.Prelude.{ℕ, zero, suc, ◌+◌, ◌-◌, ◌*◌, Option, Some, None, List, length}
use Rattle.cw_base.specs.declared.flags.Flags.{Flags}
use Rattle.cw_table.specs.declared.types.Row.{Row}
use Rattle.cw_table.specs.Rewriting.{State, rewrite}
use Rattle.cw_table.specs.Normal.{Nowhere, At, next_place, weight}
use Rattle.cw_table.specs.NormalWalk.{turns}
use Rattle.cw_table.specs.Safe.{least}

-- as many where the row reserves, and none where it doesn't
abbrev pub where_reserving : Option ℕ → ℕ → ℕ
where_reserving None count = 0
where_reserving (Some k) count = count

-- the scraps to the right of the new one, where the row reserves
abbrev pub right_of_new : Flags → Row → ℕ → State → ℕ
right_of_new flags row place state = where_reserving row.action.reserve (length (rewrite flags row place state).scraps
    - (place + row.offset + 1))

abbrev pub looks_of : List Row → Flags → ℕ → State → ℕ
looks_of rows flags zero state = 0
looks_of rows flags (suc n) state = elim (next_place rows state) [
  | Nowhere ↦ 0
  | At place row ↦ right_of_new flags row place state + looks_of rows flags n (rewrite flags row place state)
]

-- the scraps to the right of the new ones, summed over the productions by rows that reserve
unfoldable pub looks : List Row → Flags → State → ℕ
looks rows flags state = looks_of rows flags (weight state.scraps) state

abbrev pub reservings_of : List Row → Flags → ℕ → State → ℕ
reservings_of rows flags zero state = 0
reservings_of rows flags (suc n) state = elim (next_place rows state) [
  | Nowhere ↦ 0
  | At place row ↦ where_reserving row.action.reserve 1 + reservings_of rows flags n (rewrite flags row place state)
]

-- the productions by rows that reserve
unfoldable pub reservings : List Row → Flags → State → ℕ
reservings rows flags state = reservings_of rows flags (weight state.scraps) state

-- the steps that the walk counts from a place on
abbrev pub ticks_from : List Row → Flags → ℕ → State → ℕ
ticks_from rows flags place state = 4 * turns rows flags (least rows) place state + looks rows flags state

-- the steps of the whole walk
abbrev pub ticks : List Row → Flags → State → ℕ
ticks rows flags state = ticks_from rows flags 0 state
