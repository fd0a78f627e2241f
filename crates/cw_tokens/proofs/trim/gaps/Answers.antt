-- `gaps`: answer at `Blank`; said here, so that a wrong one fails at once.
use Rattle.cw_tokens.proofs.Terms.{arith, common_steps}
use Rattle.cw_tokens.proofs.trim.gaps.Goals as goal

pub returns-in-Control-Blank : goal.returns-in-Control-Blank
returns-in-Control-Blank c = grind (arith, common_steps)
