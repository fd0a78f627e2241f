-- The pieces so far stand in the list that is being built, with the modes in which it begins and ends so far.
use Rattle.cw_scraps.proofs.Terms.{drop, pieces_for, Joins}
use Rattle.cw_scraps.proofs.joining.join.Given as goal

abbrev pub invariant-loop-i : goal.invariant-loop-i
invariant-loop-i l = Joins l.fn.store.lists (drop l.place l.line) (pieces_for l.other l.row) l.fn.store.spare l.i
    l.modes.left l.modes.right l.store
