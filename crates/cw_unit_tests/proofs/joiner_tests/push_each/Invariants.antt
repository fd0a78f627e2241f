-- The output can be written, and the joiner stands for some items.
use Rattle.std.proofs.Common.{List}
use Rattle.cw_desk.specs.model.Mem.{tell_mem}
use Rattle.cw_lines.specs.Writes.{CanWrite}
use Rattle.cw_trees.specs.Printing.{Printable}
use Rattle.cw_join.specs.Standing.{Stands}
use Rattle.cw_unit_tests.proofs.joiner_tests.push_each.Given as goal

abbrev pub invariant-loop-item : goal.invariant-loop-item
invariant-loop-item l = record {
  can : CanWrite (tell_mem l.desk) l.out;
  stands : (ps : List Printable) × Stands l.joiner ps;
}
