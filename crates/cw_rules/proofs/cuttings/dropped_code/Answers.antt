-- A code that is dropped is cut as it would be, with the note why before the notes that it has.
use Rattle.std.proofs.Common.{arith}
use Rattle.cw_rules.proofs.Cuts.{dropped-cut}
use Rattle.cw_rules.proofs.cuttings.dropped_code.Goals as goal

pub returns-clause-same : goal.returns-clause-same
returns-clause-same c = grind (arith, dropped-cut)
