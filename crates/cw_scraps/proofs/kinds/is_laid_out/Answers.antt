-- `is_laid_out`: answer in the last case; said here, so that a wrong one fails at once.
use Rattle.cw_scraps.proofs.Terms.{arith, common_steps}
use Rattle.cw_scraps.proofs.kinds.is_laid_out.Goals as goal

pub returns-in_default : goal.returns-in_default
returns-in_default c = grind (arith, common_steps)
