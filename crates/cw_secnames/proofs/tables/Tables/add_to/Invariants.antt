-- The positions so far, with those of the tables that are left, are all.
use Rattle.std.proofs.Common.{◌≡◌, ◌++◌, drop}
use Rattle.std.specs.List.{flat_map}
use Rattle.cw_secnames.specs.model.Marks.{positions_at, positions_in}
use Rattle.cw_secnames.proofs.tables.Tables.add_to.Given as goal

abbrev pub invariant-loop-table : goal.invariant-loop-table
invariant-loop-table l = l.positions.items ++ (flat_map (positions_in l.mark) (drop l.table-index l.self.full.items)
    ++ positions_in l.mark l.self.latest) ≡ l.fn.positions.items ++ positions_at l.mark l.self
