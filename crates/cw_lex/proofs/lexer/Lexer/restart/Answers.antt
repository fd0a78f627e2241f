-- So they do where a scanner begins anew.
use Rattle.std.proofs.Common.{arith}
use Rattle.cw_lex.proofs.{Covering.tokens-cover, TokensWithin.tokens-within}
use Rattle.cw_lex.proofs.lexer.Lexer.restart.Goals as goal

pub returns-clause-covers : goal.returns-clause-covers
returns-clause-covers c = grind (arith, tokens-cover)

pub returns-clause-within : goal.returns-clause-within
returns-clause-within c = grind (arith, tokens-within)
