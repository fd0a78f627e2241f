-- White space gives no answer, so behind it the same answers come.
use Rattle.std.proofs.Common.{arith}
use Rattle.cw_lex.proofs.{Steps.skip-gives, White.white-found}
use Rattle.cw_lex.proofs.code_text.skip_white.Goals as goal

pub loop-at-preserved : goal.loop-at-preserved
loop-at-preserved c = grind (arith, white-found, skip-gives)
