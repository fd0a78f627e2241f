-- The line is sound with the tokens that were added so far.
use Rattle.cw_scraps.specs.Lines.{IsSoundLine}
use Rattle.cw_unit_tests.proofs.walk_tests.add_times.Given as goal

abbrev pub invariant-loop-time : goal.invariant-loop-time
invariant-loop-time l = IsSoundLine l.bench.store l.bench.names l.bench.line
