-- `begun`: clause `from`; said here, so that a wrong one fails at once.
use Rattle.cw_print.proofs.Terms.{arith, common_steps}
use Rattle.cw_print.proofs.scan.Seek.begun.Goals as goal

pub returns-clause-from : goal.returns-clause-from
returns-clause-from c = grind (arith, common_steps)
