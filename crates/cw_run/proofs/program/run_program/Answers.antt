-- `run_program`: the answer without words; said here, so that a wrong one fails at once.
use Rattle.std.proofs.Common.{rules}
use Rattle.cw_run.proofs.program.run_program.Goals as goal

pub returns-in_default-clause-done : goal.returns-in_default-clause-done
returns-in_default-clause-done g c = search rules
