-- One row to which this one is a hazard decides; behind the last row, it is a hazard to none.
use Rattle.cw_table.proofs.Terms.{arith, nat_tests}
use Rattle.cw_table.proofs.HazardLaws.{endangered-none, endangered-some, none-more}
use Rattle.cw_table.proofs.types.Table.endangered.Goals as goal

pub returns-then-is_hazard : goal.returns-then-is_hazard
returns-then-is_hazard g c = grind (arith, nat_tests, endangered-some)

pub returns : goal.returns
returns g c = endangered-none c.self.inside.rows c.args.self.now c.args.row.now c.args.places c.loop-other.other-index
    c.self.view_is (omega (arith, c.loop-other-test.false, c.self.told)) c.loop-other.invariant

pub loop-other-preserved : goal.loop-other-preserved
loop-other-preserved g c = grind (arith, nat_tests, none-more)
