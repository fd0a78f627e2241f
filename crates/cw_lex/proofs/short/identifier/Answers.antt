-- Letters and digits in a row, from a letter on, are a short token where they are no prefix of a string.
use Rattle.std.proofs.Common.{arith}
use Rattle.std.proofs.{lemmas.Bool.Decides.nat_tests, lemmas.Grind.common_steps}
use Rattle.cw_lex.proofs.ShortTokens.{word-short}
use Rattle.cw_lex.proofs.short.identifier.Goals as goal

pub returns : goal.returns
returns c = grind (arith, nat_tests, common_steps, word-short)
