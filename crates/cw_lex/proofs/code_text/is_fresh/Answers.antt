-- A blank leaves open whether the line began with blanks alone; any other byte decides.
use Rattle.std.proofs.Common.{arith}
use Rattle.cw_lex.proofs.White.{fresh-blank, fresh-other}
use Rattle.cw_lex.proofs.code_text.is_fresh.Goals as goal

pub returns-then-not-is_blank : goal.returns-then-not-is_blank
returns-then-not-is_blank c = grind (arith, fresh-other)

pub loop-k-preserved : goal.loop-k-preserved
loop-k-preserved c = grind (arith, fresh-blank)
