-- The greeting is woven by computation.
use Rattle.cw_laws.proofs.GreetingRun.{greeting-woven}
use Rattle.cw_laws.proofs.greeting.greeting_law.Goals as goal

pub returns : goal.returns
returns c = greeting-woven
