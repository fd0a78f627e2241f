-- The positions so far, with those from this place on back, are all.
use Rattle.std.proofs.Common.{◌≡◌, ◌++◌}
use Rattle.cw_secnames.specs.model.Marks.{back_from, positions_in}
use Rattle.cw_secnames.proofs.tables.Table.add_to.Given as goal

abbrev pub invariant-loop-left : goal.invariant-loop-left
invariant-loop-left l = l.positions.items ++ back_from l.self.links.items l.left l.sign l.place
    ≡ l.fn.positions.items ++ positions_in l.mark l.self

abbrev pub decreases-loop-left : goal.decreases-loop-left
decreases-loop-left l = l.left
