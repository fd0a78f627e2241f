-- The row one place before its number is the production of that number, and a sound one.
use Rattle.cw_table.proofs.Terms.{arith, nat_tests}
use Rattle.cw_table.proofs.Numbers.{numbered-row, numbered-sound}
use Rattle.cw_table.proofs.types.Table.row.Goals as goal

pub returns : goal.returns
returns g c = grind (arith, nat_tests, numbered-row, numbered-sound)
