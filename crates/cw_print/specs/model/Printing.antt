-- The printing of a C text, item by item.
use Rattle.std.specs.Prelude.{◌≡◌, ℕ, ◌≤◌, Bool, List, [], ◌∷◌, ◌++◌, drop, length, take}
use Rattle.cw_names.specs.declared.entry.NameId.{NameId}
use Rattle.cw_tokens.specs.declared.flat.FlatItem.{FlatItem}
use Rattle.cw_tokens.specs.declared.flat.FlatItem.TheVariants.{Ident}
use Rattle.cw_trees.specs.Flat.{Item}
use Rattle.cw_trees.specs.Printing.{Printable}
use Rattle.cw_join.specs.Early.{depth_behind, early}
use Rattle.cw_join.specs.Standing.{Stands}
use Rattle.cw_print.specs.model.Coming.{AllMay, MayCome}
use Rattle.cw_print.specs.declared.printing.KeptText.{KeptText}
use Rattle.cw_print.specs.declared.printing.Printer.{Printer}
use Rattle.cw_print.specs.Sources.{source_by, titles}
use Rattle.cw_print.specs.Walk.{PrintSource, item_shown, items_shown, outside, stand_after}

abbrev pub source_of : KeptText → PrintSource
source_of c = source_by c.answers.now c.book.now c.section c.flags.now

-- what these items print, and what the next one does behind them
abbrev pub shown : PrintSource → List Item → List Printable
shown s items = items_shown s items outside

abbrev pub shown_next : PrintSource → List Item → Item → Printable
shown_next s items item = record { item = item; bytes = (item_shown s item (stand_after s items outside)).bytes }

-- The printer stands behind these items of a C text.
pub record IsBehind (s : PrintSource) (inner : Bool) (items : List Item) (printer : Printer) : Type 0 where
  pub titles : titles printer.book.now ≡ s.titles
  pub names : printer.book.now.names ≡ s.names
  pub fixed : printer.walk.fixed ≡ s.fixed
  pub stand : printer.walk.stand ≡ stand_after s items outside
  pub same_inner : printer.joiner.inner ≡ inner
  pub stands : Stands printer.joiner (shown s items)

-- the items are one identifier
abbrev pub IsOnlyName : NameId → List FlatItem → Type 0
IsOnlyName name items = (number : ℕ) × (items ≡ Ident name number ∷ [])

-- The printer stands behind the first i items, and the others may come.
pub record Midway (s : PrintSource) (inner : Bool) (items : List Item) (i : ℕ) (printer : Printer) : Type 0 where
  pub behind : IsBehind s inner (take i items) printer
  pub come : AllMay (MayCome (length s.names)) (depth_behind (shown s (take i items))) (drop i items)
  pub shallow : depth_behind (shown s (take i items)) ≤ i

-- It does so in some text.
pub record IsMidway (items : List Item) (i : ℕ) (printer : Printer) : Type 0 where
  pub s : PrintSource
  pub inner : Bool
  pub midway : Midway s inner items i printer

-- Bytes that end what the items up to one place print early have become those that end what the items up to another do.
abbrev pub PrintsOn : PrintSource → Bool → List Item → ℕ → ℕ → List ℕ → List ℕ → Type 0
PrintsOn s inner items from to old new = (done : List ℕ) → done ++ old ≡ early inner (shown s (take from items)) → done
    ++ new ≡ early inner (shown s (take to items))
