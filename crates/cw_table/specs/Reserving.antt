-- Which productions make an identifier a reserved word: one from then on, and three in the new scrap alone.
use Rattle.std.specs.Prelude.{◌≡◌, ℕ, Bool, List, [], ◌∷◌, filter, map, is_some}
use Rattle.cw_table.specs.declared.types.Row.{Row}
use Rattle.cw_table.specs.Productions.{productions}
use Rattle.cw_table.specs.Safe.{reserves}

abbrev pub sets_bold : Row → Bool
sets_bold row = is_some row.action.bold

-- the numbers of the rows of which this holds
abbrev pub numbers_where : (Row → Bool) → List Row → List ℕ
numbers_where holds rows = map (λ row. row.number.number) (filter holds rows)

-- a name of a `typedef`
abbrev pub OneReserves : Type 0
OneReserves = numbers_where reserves productions ≡ 84 ∷ []

-- tags, which have a name space of their own
abbrev pub ThreeSetBold : Type 0
ThreeSetBold = numbers_where sets_bold productions ≡ 41 ∷ 42 ∷ 43 ∷ []
