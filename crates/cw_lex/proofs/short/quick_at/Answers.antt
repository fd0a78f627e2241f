-- `quick_at`: answer on one of its ways; said here, so that a wrong one fails at once.
use Rattle.std.proofs.Common.{arith}
use Rattle.std.proofs.lemmas.Grind.{common_steps}
use Rattle.cw_lex.proofs.short.quick_at.Goals as goal

pub returns-then-state-text : goal.returns-then-state-text
returns-then-state-text c = grind (arith, common_steps)
