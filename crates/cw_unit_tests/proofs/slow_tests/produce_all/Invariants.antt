-- After the productions so far the line is sound.
use Rattle.cw_scraps.specs.Lines.{IsSoundLine}
use Rattle.cw_unit_tests.proofs.slow_tests.produce_all.Given as goal

abbrev pub invariant-loop-done : goal.invariant-loop-done
invariant-loop-done l = IsSoundLine l.bench.store l.bench.names l.bench.line
