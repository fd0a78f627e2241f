-- The line is sound with the scraps of the bytes so far.
use Rattle.cw_scraps.specs.Lines.{IsSoundLine}
use Rattle.cw_unit_tests.proofs.worked_lines.add_all.Given as goal

abbrev pub invariant-loop-byte : goal.invariant-loop-byte
invariant-loop-byte l = IsSoundLine l.store l.names l.line
