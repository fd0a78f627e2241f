-- Where the words ask for nothing, the usage is printed.
use Rattle.cw_log.proofs.Terms.{refl, ap, ◌∙◌, get, runs-known, line-refused}
use Rattle.cw_log.specs.Command.{run_for, usage_text}
use Rattle.cw_log.proofs.program.run_words.Goals as goal

pub returns-in-None-clause-runs : goal.returns-in-None-clause-runs
returns-in-None-clause-runs g c = λ files is. runs-known (line-refused usage_text _ refl
    ∙ ap (λ o. run_for o (get files)) c.in-None.ensures.asked) c.refuse.ensures.runs
