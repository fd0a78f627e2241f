-- `enter`: clause `answer` on one of its ways and clause `kept` on one of its ways; said here, so that
-- a wrong one fails at once.
use Rattle.std.proofs.Common.{arith}
use Rattle.std.proofs.lemmas.Grind.{common_steps}
use Rattle.cw_secnames.proofs.sec_names.SecNames.enter.Goals as goal

pub returns-in-Some-conflicting-clause-answer : goal.returns-in-Some-conflicting-clause-answer
returns-in-Some-conflicting-clause-answer c = grind (arith, common_steps)

pub returns-in-Some-growing-clause-kept : goal.returns-in-Some-growing-clause-kept
returns-in-Some-growing-clause-kept c = grind (arith, common_steps)
