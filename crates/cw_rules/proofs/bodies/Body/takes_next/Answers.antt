-- `takes_next`: answer on one of its ways; said here, so that a wrong one fails at once.
use Rattle.std.proofs.Common.{arith}
use Rattle.std.proofs.lemmas.Grind.{common_steps}
use Rattle.cw_rules.proofs.bodies.Body.takes_next.Goals as goal

pub returns-else-byte-eq64 : goal.returns-else-byte-eq64
returns-else-byte-eq64 c = grind (arith, common_steps)
