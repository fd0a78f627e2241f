-- `cat_at`: clause `steps`; said here, so that a wrong one fails at once.
use Rattle.cw_scraps.proofs.Terms.{arith, common_steps}
use Rattle.cw_scraps.proofs.line.ScrapLine.cat_at.Goals as goal

pub returns-clause-steps : goal.returns-clause-steps
returns-clause-steps g c = grind (arith, common_steps)
