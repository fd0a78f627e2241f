-- `append_statement`: answer; said here, so that a wrong one fails at once.
use Rattle.std.proofs.Common.{arith}
use Rattle.std.proofs.lemmas.Grind.{common_steps}
use Rattle.cw_weave.proofs.sample_sections.append_statement.Goals as goal

pub returns : goal.returns
returns c = grind (arith, common_steps)
