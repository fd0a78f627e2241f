-- All rows of the table keep the rule, since the productions pass the test.
use Rattle.cw_table.proofs.Terms.{arith, nat_tests}
use Rattle.cw_table.proofs.{CheckLaws.all-sound, Examples.productions-sound}
use Rattle.cw_table.proofs.types.Table.is_sound.Goals as goal

pub returns-clause-rule : goal.returns-clause-rule
returns-clause-rule g c = grind (arith, nat_tests, all-sound, productions-sound)
