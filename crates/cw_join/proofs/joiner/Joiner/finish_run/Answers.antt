-- `finish_run`: clause `state` behind `append_run`; said here, so that a wrong one fails at once.
use Rattle.cw_join.proofs.Terms.{arith, common_steps}
use Rattle.cw_join.proofs.joiner.Joiner.finish_run.Goals as goal

pub returns-in_ok-append_run-clause-state : goal.returns-in_ok-append_run-clause-state
returns-in_ok-append_run-clause-state c = grind (arith, common_steps)
