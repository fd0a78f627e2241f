-- `show_other`: clause `bytes` at `Some`; said here, so that a wrong one fails at once.
use Rattle.cw_print.proofs.Terms.{arith, common_steps}
use Rattle.cw_print.proofs.walk.TextWalk.show_other.Goals as goal

pub returns-in-Some-clause-bytes : goal.returns-in-Some-clause-bytes
returns-in-Some-clause-bytes c = grind (arith, common_steps)
