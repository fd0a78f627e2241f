-- Where the words ask for nothing, the usage is printed.
use Rattle.std.proofs.Common.{sym}
use Rattle.cw_run.specs.laws.EmitsLaws.{runs-known}
use Rattle.cw_run.proofs.RefusalLaws.{line-refused}
use Rattle.cw_run.proofs.tool.run_words.Goals as goal

pub returns-in-None-clause-runs : goal.returns-in-None-clause-runs
returns-in-None-clause-runs g c = λ files is. rw (sym c.in-None.ensures)
    (runs-known (line-refused g.T.Tool.usage c.usage_line.result.now c.usage_line.ensures) c.refuse.ensures.runs)
