-- `is_alone`: answer on one of its ways; said here, so that a wrong one fails at once.
use Rattle.std.proofs.Common.{arith}
use Rattle.std.proofs.lemmas.Grind.{common_steps}
use Rattle.cw_lex.proofs.short.is_alone.Goals as goal

pub returns-then-byte-eq46 : goal.returns-then-byte-eq46
returns-then-byte-eq46 c = grind (arith, common_steps)
