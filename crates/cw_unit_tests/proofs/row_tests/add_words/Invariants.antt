-- The line is sound with the scraps of the letters so far.
use Rattle.cw_scraps.specs.Lines.{IsSoundLine}
use Rattle.cw_unit_tests.proofs.row_tests.add_words.Given as goal

abbrev pub invariant-loop-letter : goal.invariant-loop-letter
invariant-loop-letter l = IsSoundLine l.store l.names l.line
