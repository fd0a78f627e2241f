-- White space of calm C text gives no answer.
use Rattle.std.proofs.Common.{arith}
use Rattle.cw_lex.proofs.Calm.{calm-coming}
use Rattle.cw_lex.proofs.lexer.skip_in_calm.Goals as goal

pub returns-clause-same : goal.returns-clause-same
returns-clause-same c = grind (arith, calm-coming)
