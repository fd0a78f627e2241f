-- What the run prints at its end is put to the line of the sheet.
use Rattle.cw_join.proofs.Terms.{arith, common_steps}
use Rattle.cw_join.proofs.joiner.Joiner.finish.Goals as goal

pub returns-clause-puts : goal.returns-clause-puts
returns-clause-puts g c = λ ps s. let ended = c.end.ensures.prints ps s in grind (arith, common_steps, ended.puts)
