-- `ends_inner`: answer on one of its ways; said here, so that a wrong one fails at once.
use Rattle.std.proofs.Common.{arith}
use Rattle.std.proofs.lemmas.Grind.{common_steps}
use Rattle.cw_lex.proofs.short.ends_inner.Goals as goal

pub returns-then-ends_at_bar : goal.returns-then-ends_at_bar
returns-then-ends_at_bar c = grind (arith, common_steps)
