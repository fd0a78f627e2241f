-- One link more; and behind the last one nothing is left.
use Rattle.std.proofs.Common.{arith}
use Rattle.std.proofs.{lemmas.List.append-nil, lemmas.Option.slice_get-get_or}
use Rattle.cw_secnames.proofs.Linked.{back-end, back-step}
use Rattle.cw_secnames.proofs.tables.Table.add_to.Goals as goal

pub loop-left-preserved : goal.loop-left-preserved
loop-left-preserved c = grind (arith, back-step, slice_get-get_or)

pub returns-else-place-len : goal.returns-else-place-len
returns-else-place-len c = grind (arith, append-nil, back-end)
