-- How far the trimming of a flat list has come.
use Rattle.std.specs.Prelude.{◌≡◌, Bool, true, List, [], ◌∷◌, ◌++◌}
use Rattle.cw_trees.specs.Flat.{Item, is_gap, trim_back, trim_front, trimmed_items, without_inserted}
use Rattle.cw_tokens.specs.declared.flat.FlatItem.{FlatItem}
use Rattle.cw_tokens.specs.FlatItems.{items_are}

abbrev pub AllGaps : List Item → Type 0
AllGaps [] = Unit {0}
AllGaps (item ∷ items) = (is_gap item ≡ true) × AllGaps items

-- the items that stay whatever comes, the gap behind them, and whether the text at hand only has gaps so far
pub record Trims : Type 0 where
  pub settled : List FlatItem
  pub gap : List FlatItem
  pub begins : Bool

-- the items that came are trimmed so far: with more, whatever it is, the same stays of both
pub record StandsFor (trims : Trims) (given : List Item) : Type 0 where
  pub gaps : AllGaps (items_are trims.gap)
  pub stays : (more : List Item) → trimmed_items (given ++ more)
      ≡ items_are trims.settled ++ trim_back (items_are trims.gap ++ trim_front trims.begins (without_inserted more))
