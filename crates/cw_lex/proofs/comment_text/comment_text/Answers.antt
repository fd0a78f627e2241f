-- `comment_text`: that `begin_inner` may be called (`depth`); said here, so that a wrong one fails at once.
use Rattle.std.proofs.Common.{arith}
use Rattle.std.proofs.lemmas.Grind.{common_steps}
use Rattle.cw_lex.proofs.comment_text.comment_text.Goals as goal

pub begin_inner-requires-clause-depth : goal.begin_inner-requires-clause-depth
begin_inner-requires-clause-depth c = grind (arith, common_steps)
