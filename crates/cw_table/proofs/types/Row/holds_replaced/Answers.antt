-- A piece goes on where it is the next replaced scrap, and where it is none; any other scrap decides.
use Rattle.cw_table.proofs.Terms.{arith, nat_tests}
use Rattle.cw_table.proofs.CheckLaws.{order-end, order-many, order-on, order-past, order-wrong}
use Rattle.cw_table.proofs.types.Row.holds_replaced.Goals.{then-next-end-via-then-next-end, in_default}
use Rattle.cw_table.proofs.types.Row.holds_replaced.Goals as goal

pub returns : goal.returns
returns c = grind (arith, nat_tests, order-end)

pub returns-then-next-end : goal.returns-then-next-end
returns-then-next-end c = grind (arith, nat_tests, then-next-end-via-then-next-end, order-many, order-wrong)

pub loop-piece-preserved : goal.loop-piece-preserved
loop-piece-preserved c = grind (arith, nat_tests, order-on, in_default, order-past)
