-- The rows that are put in are all productions, sound ones, numbered one after another.
use Rattle.cw_table.proofs.Terms.{length-set, arith, nat_tests}
use Rattle.cw_table.proofs.{CheckLaws.all-sound, Examples.productions-numbered, Examples.productions-sound}
use Rattle.cw_table.proofs.{Joining.joins-more, Joining.joins-all, Joining.joined-test}
use Rattle.cw_table.proofs.productions.table.Goals as goal

pub loop-i-preserved : goal.loop-i-preserved
loop-i-preserved c = grind (arith, nat_tests, length-set, joins-more)

pub invariant_of-result : goal.invariant_of-result
invariant_of-result c = joins-all _ c.loop-i.i c.loop-i.invariant.filled c.loop-i-test.false c.loop-i.invariant.same

pub returns-clause-rows : goal.returns-clause-rows
returns-clause-rows c = joins-all _ c.loop-i.i c.loop-i.invariant.filled c.loop-i-test.false c.loop-i.invariant.same

pub returns-clause-sound : goal.returns-clause-sound
returns-clause-sound c = grind (arith, nat_tests, joined-test, productions-sound, joins-all)

pub returns-clause-numbered : goal.returns-clause-numbered
returns-clause-numbered c = grind (arith, nat_tests, joined-test, productions-numbered, joins-all)

pub returns-clause-rules : goal.returns-clause-rules
returns-clause-rules c = grind (arith, nat_tests, all-sound, joined-test, productions-sound, joins-all)
