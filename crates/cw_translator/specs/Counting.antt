-- What is counted of a translation: sums over its texts, as their reductions began.
use Rattle.std.specs.Prelude.{ℕ, ◌+◌, ◌*◌, List, length, map}
use Rattle.std.specs.List.{sum_by}
use Rattle.cw_base.specs.declared.flags.Flags.{Flags}
use Rattle.cw_table.specs.Normal.{count, log, Production}
use Rattle.cw_table.specs.Productions.{productions}
use Rattle.cw_table.specs.Rewriting.{State}
use Rattle.cw_table.specs.WalkCounts.{ticks, reservings}

abbrev pub scraps_in : List State → ℕ
scraps_in ended = sum_by (λ state. length state.scraps) ended

abbrev pub productions_in : Flags → List State → ℕ
productions_in flags ended = sum_by (λ state. count productions flags state) ended

-- the steps
abbrev pub ticks_in : Flags → List State → ℕ
ticks_in flags ended = sum_by (λ state. ticks productions flags state) ended

-- How many there may be: for each text of n scraps 132 n, and n for each production by a row that reserves.
abbrev pub text_limit : Flags → State → ℕ
text_limit flags state = 132 * length state.scraps + length state.scraps * reservings productions flags state

abbrev pub limit_in : Flags → List State → ℕ
limit_in flags ended = sum_by (λ state. text_limit flags state) ended

-- the log of the productions of each text
abbrev pub logs_in : Flags → List State → List (List Production)
logs_in flags ended = map (λ state. log productions flags state) ended
