-- What is shown of a list with more behind it, and what the joiner prints of an item that is shown.
use Rattle.cw_print.proofs.Terms.{◌≡◌, Bool, true, List, [], ◌∷◌, ◌++◌, Option, Some, None, refl, if◌then◌else◌, arith}
use Rattle.cw_print.proofs.Terms.{Control, Item, is_run_sign, run_sign, FlatItem, item_is, control_bytes, item_bytes}
use Rattle.cw_print.proofs.Terms.{Fixed, PrintSource, Stand, Title, control_shown, item_shown, items_shown, own_bytes}
use Rattle.cw_print.proofs.Terms.{own_sign, placed_shown, stand_after}
use Rattle.cw_names.specs.Names.{Entry}

pub shown-append : (s : PrintSource) (items more : List Item) (stand : Stand)
    → items_shown s (items ++ more) stand ≡ items_shown s items stand ++ items_shown s more (stand_after s items stand)
shown-append s [] more stand = refl
shown-append s (first ∷ items) more stand = grind (arith, shown-append s items more (item_shown s first stand).stand)

pub stand-more : (s : PrintSource) (items : List Item) (item : Item) (stand : Stand)
    → stand_after s (items ++ item ∷ []) stand ≡ (item_shown s item (stand_after s items stand)).stand
stand-more s [] item stand = refl
stand-more s (first ∷ items) item stand = stand-more s items item (item_shown s first stand).stand

-- Where no bytes are given, the joiner prints the item's own.
control-alone : (control : Control) → control_bytes control [] ≡ own_sign control
control-alone control = grind arith

pub own-alone : (names : List Entry) (item : FlatItem) → item_bytes names item [] ≡ own_bytes names (item_is item)
own-alone names item = grind (arith, control-alone)

-- A control of a run prints nothing by where it stands.
control-run : (control : Control) (stand : Stand) → is_run_sign control ≡ true → (control_shown control stand).bytes
    ≡ []
control-run control stand is = grind arith

sign-by : (control found : Control) (b : Bool) → is_run_sign control ≡ b
    → (if b then Some control else None) ≡ Some found → is_run_sign control ≡ true
sign-by control found b is some = grind arith

pub placed-run : (f : Fixed) (title : Option Title) (item : FlatItem) (stand : Stand) (control : Control)
    → run_sign (item_is item) ≡ Some control → (placed_shown f title (item_is item) stand).bytes ≡ []
placed-run f title item stand control is = grind (arith, control-run, sign-by)
