-- The productions before this one are appended.
use Rattle.cw_logs.proofs.Terms.{◌≡◌, ◌++◌, map, take, flat_map, production_of, ended, item_text}
use Rattle.cw_logs.proofs.writing.append_items.Given as goal

abbrev pub invariant-loop-item : goal.invariant-loop-item
invariant-loop-item l =
    l.text ≡ l.fn.text ++ flat_map ended (map item_text (map production_of (take l.item-index l.items)))
