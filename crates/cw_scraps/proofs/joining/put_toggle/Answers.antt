-- `put_toggle`: clause `building`; said here, so that a wrong one fails at once.
use Rattle.cw_scraps.proofs.Terms.{arith, common_steps}
use Rattle.cw_scraps.proofs.joining.put_toggle.Goals as goal

pub returns-clause-building : goal.returns-clause-building
returns-clause-building c = grind (arith, common_steps)
