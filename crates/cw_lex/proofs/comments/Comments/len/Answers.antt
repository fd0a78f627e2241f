-- As many comments are open as are counted, and at most 21.
use Rattle.std.proofs.Common.{length, sym, ap, ◌∙◌, arith}
use Rattle.cw_lex.proofs.Stack.{innermost-length}
use Rattle.cw_lex.proofs.comments.Comments.len.Goals as goal

pub returns-clause-value : goal.returns-clause-value
returns-clause-value c = sym (innermost-length c.self.inside.rows c.self.inside.count) ∙ ap length c.self.view_is

pub returns-clause-most : goal.returns-clause-most
returns-clause-most c = omega (arith, innermost-length c.self.inside.rows c.self.inside.count, ap length c.self.view_is)
