-- No row fits at a scrap that stands alone where none fits before the end.
use Rattle.cw_reduce.proofs.AloneSteps.{alone-none}
use Rattle.cw_reduce.proofs.alone.stays_alone.Goals as goal

pub returns : goal.returns
returns c = alone-none c.args.cat c.may_fit.result c.may_fit.ensures.none
