-- Bytes that end before the wanted ones don't begin with them.
use Rattle.std.proofs.Common.{arith}
use Rattle.cw_rules.proofs.Runs.{begins_with-short}
use Rattle.cw_rules.proofs.classes.begins_with.Goals as goal

pub returns-then-k-bytes : goal.returns-then-k-bytes
returns-then-k-bytes c = grind (arith, begins_with-short)
