-- The five checks together are the test of a sound row, and a row that passes it keeps the rule.
use Rattle.cw_table.proofs.Terms.{arith, nat_tests}
use Rattle.cw_table.proofs.{CheckLaws.parts-joined, Soundness.sound-row}
use Rattle.cw_table.proofs.types.Row.is_sound.Goals as goal

pub returns-clause-test : goal.returns-clause-test
returns-clause-test c = grind (arith, nat_tests, parts-joined)

pub returns-clause-rule : goal.returns-clause-rule
returns-clause-rule c = grind (arith, nat_tests, sound-row, parts-joined)
