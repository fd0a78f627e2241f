-- The first production that fits is the first row of the table that fits, since its rows are the productions.
use Rattle.cw_table.proofs.Terms.{arith, nat_tests}
use Rattle.cw_table.proofs.Joining.{productions-length}
use Rattle.cw_table.proofs.types.Table.first_at.Goals as goal

pub returns-clause-first : goal.returns-clause-first
returns-clause-first g c = grind (arith, nat_tests)

pub returns-clause-to_last : goal.returns-clause-to_last
returns-clause-to_last g c = grind (arith, nat_tests, productions-length)
