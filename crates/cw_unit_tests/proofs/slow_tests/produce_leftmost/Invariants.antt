-- From place to place the line stays sound.
use Rattle.cw_scraps.specs.Lines.{IsSoundLine}
use Rattle.cw_unit_tests.proofs.slow_tests.produce_leftmost.Given as goal

abbrev pub invariant-loop-place : goal.invariant-loop-place
invariant-loop-place l = IsSoundLine l.bench.store l.bench.names l.bench.line
