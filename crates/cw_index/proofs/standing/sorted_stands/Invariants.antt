-- The names so far are sorted, and those that are said to be entered stand among them.
use Rattle.cw_index.proofs.Terms.{◌≡◌, drop, map, sorted, named_stands, stand_cmp, IsSorting, stand_of}
use Rattle.cw_index.proofs.StandLaws.{with_stands}
use Rattle.cw_index.proofs.standing.sorted_stands.Given as goal

abbrev pub invariant-loop-i : goal.invariant-loop-i
invariant-loop-i l = (with_stands l.names (drop l.i l.uses) (map stand_of l.sorting.stands.keys) ≡ sorted stand_cmp
    (named_stands l.names l.uses)) × IsSorting l.names l.sorting
