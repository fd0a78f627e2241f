-- What a mutant breaks here has an answer of its own, so that it fails at once.
use Rattle.cw_desk.proofs.Terms.{arith, common_steps}
use Rattle.cw_desk.proofs.system.System.open.Goals as goal

pub returns-in-Missing-clause-noted : goal.returns-in-Missing-clause-noted
returns-in-Missing-clause-noted c = grind (arith, common_steps)
