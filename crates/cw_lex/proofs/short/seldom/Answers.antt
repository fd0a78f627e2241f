-- A quote in C text begins a string.
use Rattle.std.proofs.Common.{arith}
use Rattle.cw_lex.proofs.ShortTokens.{string-begins}
use Rattle.cw_lex.proofs.short.seldom.Goals as goal

pub returns-then-is_mark : goal.returns-then-is_mark
returns-then-is_mark c = grind (arith, string-begins)
