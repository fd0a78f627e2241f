-- What a translation over a text says that is told to nobody, of its parts.
use Rattle.cw_reduce.proofs.published.translate.Goals as goal
use Rattle.cw_translator.proofs.Terms.{arith, common_steps}

pub returns-clause-text : goal.returns-clause-text
returns-clause-text g c = grind (arith, common_steps)
