-- What a mutant breaks here has an answer of its own, so that it fails at once.
use Rattle.cw_desk.proofs.Terms.{arith, common_steps}
use Rattle.cw_desk.proofs.system.calls.Calls.taken.Goals as goal

pub returns-in-Ok-clause-noted : goal.returns-in-Ok-clause-noted
returns-in-Ok-clause-noted c = grind (arith, common_steps)

pub returns-in-Ok-eq0-clause-some : goal.returns-in-Ok-eq0-clause-some
returns-in-Ok-eq0-clause-some c = grind (arith, common_steps)
