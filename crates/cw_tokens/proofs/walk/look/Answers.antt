-- `look`: answer at `Source`; said here, so that a wrong one fails at once.
use Rattle.cw_tokens.proofs.Terms.{arith, common_steps}
use Rattle.cw_tokens.proofs.walk.look.Goals as goal

pub returns-in-Source-2 : goal.returns-in-Source-2
returns-in-Source-2 c = grind (arith, common_steps)
