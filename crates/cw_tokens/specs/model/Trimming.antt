-- The models beside `specs/Trimming`.
use Rattle.std.specs.Prelude.{ℕ, Bool, true, ◌&&◌, List, [], ◌∷◌, take, drop, if◌then◌else◌}
use Rattle.cw_trees.specs.Flat.{Item, Close, is_break, is_gap}
use Rattle.cw_tokens.specs.declared.flat.FlatItem.{FlatItem}
use Rattle.cw_tokens.specs.Trimming.{Trims}

-- whether only a gap stands between the place before an item and the end of its text
abbrev pub ends_before : Bool → Item → Bool
ends_before ends Close = true
ends_before ends item = is_gap item && ends

-- a list without its breaks
abbrev pub unbroken : List Item → List Item
unbroken [] = []
unbroken (item ∷ items) = if is_break item then unbroken items else item ∷ unbroken items

-- what stays of a gap before an item that is in none
abbrev pub gap_before : Item → List Item → List Item
gap_before Close gap = unbroken gap
gap_before item gap = gap

abbrev pub parted : ℕ → List FlatItem → Bool → Trims
parted from items begins = record { settled = take from items; gap = drop from items; begins = begins }
