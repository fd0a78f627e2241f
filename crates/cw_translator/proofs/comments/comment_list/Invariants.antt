-- The parts so far stand in the list, and there is room for those that are left and for the end.
use Rattle.cw_translator.proofs.Terms.{◌+◌, ◌≤◌, length, Builds}
use Rattle.cw_translator.proofs.HeldLists.{comment_end, comment_piece, comment_tokens, left_from}
use Rattle.cw_translator.proofs.comments.comment_list.Given as goal

abbrev pub invariant-loop-part : goal.invariant-loop-part
invariant-loop-part l = Builds l.fn.store.lists (comment_tokens l.number l.parts) (left_from comment_piece comment_end
    l.part-index l.parts) l.store × (length l.parts + 2 ≤ l.store.spare + l.part-index)
