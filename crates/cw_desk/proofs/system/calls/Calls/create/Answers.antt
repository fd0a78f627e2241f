-- What a mutant breaks here has an answer of its own, so that it fails at once.
use Rattle.cw_desk.proofs.Terms.{arith, common_steps}
use Rattle.cw_desk.proofs.system.calls.Calls.create.Goals as goal

pub returns-in-Err : goal.returns-in-Err
returns-in-Err c = grind (arith, common_steps)
