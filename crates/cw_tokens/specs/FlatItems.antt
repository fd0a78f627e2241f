-- A tree laid flat: the items that a call of `flat` gives, and how far the walk has come.
use Rattle.std.specs.Prelude.{List, map}
use Rattle.cw_trees.specs.Flat.{Item, SourceItem, IdentItem, ReservedItem, SignItem, Open as open_item}
use Rattle.cw_trees.specs.Flat.{Close as close_item}
use Rattle.cw_tokens.specs.declared.flat.FlatItem.{FlatItem}
use Rattle.cw_tokens.specs.declared.flat.FlatItem.TheVariants.{Source, Ident, Reserved, Control, Open, Close}

-- the item of a flat list that a program's item stands for
abbrev pub item_is : FlatItem → Item
item_is (Source number) = SourceItem number
item_is (Ident name number) = IdentItem name.index number
item_is (Reserved name number) = ReservedItem name.index number
item_is (Control control) = SignItem control
item_is Open = open_item
item_is Close = close_item

abbrev pub items_are : List FlatItem → List Item
items_are items = map item_is items
