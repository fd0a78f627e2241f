-- Whether a name is ignored is seen by its reduced text.
use Rattle.cw_phase1.proofs.Terms.{arith}
use Rattle.cw_phase1.proofs.Ignored.{naming-reduced}
use Rattle.cw_phase1.proofs.entering.enter.Goals as goal

pub returns-clause-answer : goal.returns-clause-answer
returns-clause-answer c = grind (arith, naming-reduced)

pub returns-clause-kept : goal.returns-clause-kept
returns-clause-kept c = grind (arith, naming-reduced)
