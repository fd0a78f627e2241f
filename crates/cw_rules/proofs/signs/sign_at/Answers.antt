-- `sign_at`: clause `value` on one of its ways; said here, so that a wrong one fails at once.
use Rattle.std.proofs.Common.{arith}
use Rattle.std.proofs.lemmas.Grind.{common_steps}
use Rattle.cw_rules.proofs.signs.sign_at.Goals as goal

pub returns-then-rest-eq46-2-clause-value : goal.returns-then-rest-eq46-2-clause-value
returns-then-rest-eq46-2-clause-value c = grind (arith, common_steps)
