-- What holds of every table of sound rows and of every list of scraps that are fine, as statements.
use Rattle.std.specs.Prelude.{◌≡◌, ℕ, ◌+◌, ◌*◌, ◌<◌, ◌≤◌, true, List, length, drop, None, All}
use Rattle.std.specs.List.{list_all}
use Rattle.cw_base.specs.declared.flags.Flags.{Flags}
use Rattle.cw_table.specs.declared.types.Row.{Row}
use Rattle.cw_table.specs.Fitting.{first_of}
use Rattle.cw_table.specs.Rewriting.{State, rewrite, cats_of}
use Rattle.cw_table.specs.Normal.{Nowhere, At, next_place, weight, is_fine, steps, normal, log, count}
use Rattle.cw_table.specs.NormalWalk.{walk_log, walked, Position, positions, turns}
use Rattle.cw_table.specs.Reaching.{IsAfter}
use Rattle.cw_table.specs.WalkCounts.{reservings, ticks}
use Rattle.cw_table.specs.Safe.{IsLeast, least, safe}
use Rattle.cw_table.specs.Sound.{row_is_sound}

-- each production at the least place lowers the weight
abbrev pub WeightFalls : Type 0
WeightFalls = (rows : List Row) (flags : Flags) (state : State) (place : ℕ) (row : Row) → list_all row_is_sound rows
    ≡ true → list_all is_fine state.scraps ≡ true → next_place rows state ≡ At place row
    → weight (rewrite flags row place state).scraps < weight state.scraps

-- each production at the least place keeps the scraps fine
abbrev pub StaysFine : Type 0
StaysFine = (rows : List Row) (flags : Flags) (state : State) (place : ℕ) (row : Row) → list_all row_is_sound rows
    ≡ true → list_all is_fine state.scraps ≡ true → next_place rows state ≡ At place row
    → list_all is_fine (rewrite flags row place state).scraps ≡ true

-- a production leads to a list with the same normal form
abbrev pub NormalStays : Type 0
NormalStays = (rows : List Row) (flags : Flags) (state : State) (place : ℕ) (row : Row) → list_all row_is_sound rows
    ≡ true → list_all is_fine state.scraps ≡ true → next_place rows state ≡ At place row → normal rows flags state
    ≡ normal rows flags (rewrite flags row place state)

-- in the normal form no row fits anywhere
abbrev pub NormalIsDone : Type 0
NormalIsDone = (rows : List Row) (flags : Flags) (state : State) → list_all row_is_sound rows ≡ true
    → list_all is_fine state.scraps ≡ true → next_place rows (normal rows flags state) ≡ Nowhere

-- the productions are at most the weight, and so at most eight for each scrap
abbrev pub CountAtMostWeight : Type 0
CountAtMostWeight = (rows : List Row) (flags : Flags) (state : State) → count rows flags state ≤ weight state.scraps

abbrev pub CountAtMostEight : Type 0
CountAtMostEight = (rows : List Row) (flags : Flags) (state : State) → count rows flags state ≤ 8 * length state.scraps

-- After a production at the least place where some row fits, no row fits further before that place than a safe
-- distance, whatever the scraps are; and the least safe distance is safe.
abbrev pub SafeReachesFar : Type 0
SafeReachesFar = (rows : List Row) (flags : Flags) (state : State) (place : ℕ) (row : Row) (distance lower : ℕ)
    → list_all row_is_sound rows ≡ true → IsLeast rows (cats_of state.scraps) place row → safe rows row distance ≡ true
    → lower + distance < place → first_of rows (drop lower (cats_of (rewrite flags row place state).scraps)) ≡ None

abbrev pub LeastIsSafe : Type 0
LeastIsSafe = (rows : List Row) (row : Row) → safe rows row (least rows row) ≡ true

-- the walk that goes back by the least safe distance makes the leftmost-first productions, and ends where they end
abbrev pub WalkHasLog : Type 0
WalkHasLog = (rows : List Row) (flags : Flags) (state : State) → list_all row_is_sound rows ≡ true
    → list_all is_fine state.scraps ≡ true → walk_log rows flags (least rows) 0 state ≡ log rows flags state

abbrev pub WalkEndsNormal : Type 0
WalkEndsNormal = (rows : List Row) (flags : Flags) (state : State) → list_all row_is_sound rows ≡ true
    → list_all is_fine state.scraps ≡ true → walked rows flags (least rows) 0 state ≡ normal rows flags state

-- The walk takes at most 33 turns for each scrap, and at each turn no row fits below its place.
abbrev pub TurnsAtMost : Type 0
TurnsAtMost = (rows : List Row) (flags : Flags) (state : State) → list_all row_is_sound rows ≡ true
    → list_all is_fine state.scraps ≡ true → turns rows flags (least rows) 0 state ≤ 33 * length state.scraps

abbrev pub NoneFitsBelow : List Row → Position → Type 0
NoneFitsBelow rows position = (lower : ℕ) → lower < position.place
    → first_of rows (drop lower (cats_of position.state.scraps)) ≡ None

abbrev pub WalkIsLeftmost : Type 0
WalkIsLeftmost = (rows : List Row) (flags : Flags) (state : State) → list_all row_is_sound rows ≡ true
    → list_all is_fine state.scraps ≡ true → All (NoneFitsBelow rows) (positions rows flags (least rows) 0 state)

-- its steps are at most 132 for each scrap, and as many more as there are scraps for each production by a row
-- that reserves
abbrev pub TicksAtMost : Type 0
TicksAtMost = (rows : List Row) (flags : Flags) (state : State) → list_all row_is_sound rows ≡ true
    → list_all is_fine state.scraps ≡ true → ticks rows flags state ≤ 132 * length state.scraps + length state.scraps
    * reservings rows flags state

-- the weight tells how many productions were done
abbrev pub WeightTellsNumber : Type 0
WeightTellsNumber = (rows : List Row) (flags : Flags) (state : State) (number : ℕ) → list_all row_is_sound rows ≡ true
    → list_all is_fine state.scraps ≡ true → number ≤ count rows flags state
    → IsAfter rows flags state (steps rows flags number state)
