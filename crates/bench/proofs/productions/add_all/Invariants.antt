-- The line is sound with the scraps added so far.
use Rattle.cw_scraps.specs.Lines.{IsSoundLine}
use Rattle.bench.proofs.productions.add_all.Given as goal

abbrev pub invariant-loop-i : goal.invariant-loop-i
invariant-loop-i l = IsSoundLine l.store l.names l.line
