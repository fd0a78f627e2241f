-- The comment that is stored behind the others is the innermost one.
use Rattle.std.proofs.Common.{arith}
use Rattle.cw_lex.proofs.Stack.{innermost-length, innermost-push}
use Rattle.cw_lex.proofs.comments.Comments.push.Goals as goal

pub returns : goal.returns
returns c = grind (arith, innermost-length, innermost-push)
