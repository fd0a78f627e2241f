-- The answers stand on the scanned bytes, one behind another, with only white space between them.
use Rattle.std.proofs.Common.{arith}
use Rattle.cw_lex.proofs.{Covering.tokens-cover, TokensWithin.tokens-within}
use Rattle.cw_lex.proofs.lexer.Lexer.over.Goals as goal

pub returns-clause-covers : goal.returns-clause-covers
returns-clause-covers c = grind (arith, tokens-cover)

pub returns-clause-within : goal.returns-clause-within
returns-clause-within c = grind (arith, tokens-within)
