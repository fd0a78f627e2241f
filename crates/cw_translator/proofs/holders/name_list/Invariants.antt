-- The inner texts so far stand in the list, and there is room for the others, for the end and for the sign.
use Rattle.cw_translator.proofs.Terms.{◌+◌, ◌*◌, ◌≤◌, length, Builds, name_part}
use Rattle.cw_translator.proofs.HeldLists.{left_from, name_end, name_tokens}
use Rattle.cw_translator.proofs.holders.name_list.Given as goal

abbrev pub invariant-loop-part : goal.invariant-loop-part
invariant-loop-part l = Builds l.fn.store.lists (name_tokens l.number l.sign l.parts) (left_from name_part
    (name_end l.sign) l.part-index l.parts) l.store × (2 * length l.parts + 3 ≤ l.store.spare + 2 * l.part-index)
