-- Items that may be printed one after another.
use Rattle.std.specs.Prelude.{◌≡◌, ℕ, ◌<◌, false, List, [], ◌∷◌}
use Rattle.cw_trees.specs.Flat.{Item, IdentItem, ReservedItem, Close, is_inserted}
use Rattle.cw_trees.specs.Printing.{opened}

-- a name is one of so many
abbrev pub IsNamedItem : ℕ → Item → Type 0
IsNamedItem count (IdentItem name number) = name < count
IsNamedItem count (ReservedItem name number) = name < count
IsNamedItem count _ = Unit {0}

-- an inner text that closes is open
abbrev pub IsOpen : ℕ → Item → Type 0
IsOpen depth Close = 0 < depth
IsOpen depth _ = Unit {0}

-- An item may stand where so many inner texts are open.
pub record MayStand (count depth : ℕ) (item : Item) : Type 0 where
  pub named : IsNamedItem count item
  pub is_open : IsOpen depth item

-- And it is no mark that prints nothing.
pub record MayCome (count depth : ℕ) (item : Item) : Type 0 where
  pub stands : MayStand count depth item
  pub prints : is_inserted item ≡ false

-- All items may, one behind another, and behind the last no inner text is open.
abbrev pub AllMay : (ℕ → Item → Type 0) → ℕ → List Item → Type 0
AllMay may depth [] = depth ≡ 0
AllMay may depth (item ∷ items) = may depth item × AllMay may (opened depth item) items
