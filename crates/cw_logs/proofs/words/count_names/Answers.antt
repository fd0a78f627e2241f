-- A name is counted, or there is none where one has to be.
use Rattle.cw_logs.proofs.Terms.{arith, common_steps}
use Rattle.cw_logs.proofs.Names.{one-counted, one-later, none-later, name-shorter}
use Rattle.cw_logs.proofs.words.count_names.Goals as goal

pub returns-in_err-next : goal.returns-in_err-next
returns-in_err-next c = grind (arith, common_steps, none-later)

pub loop-rest-preserved : goal.loop-rest-preserved
loop-rest-preserved c = grind (arith, name-shorter, one-counted, one-later)
