-- `behind`: answer at `Parenthesis`; said here, so that a wrong one fails at once.
use Rattle.std.proofs.Common.{arith}
use Rattle.std.proofs.lemmas.Grind.{common_steps}
use Rattle.cw_lex.proofs.heads.Expectation.behind.Goals as goal

pub returns-in-Parenthesis : goal.returns-in-Parenthesis
returns-in-Parenthesis c = grind (arith, common_steps)
