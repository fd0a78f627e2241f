-- `after_white`: that `code_text` may be called (`found`); said here, so that a wrong one fails at once.
use Rattle.std.proofs.Common.{rules}
use Rattle.cw_lex.proofs.lexer.after_white.Goals as goal

pub code_text-requires-clause-found : goal.code_text-requires-clause-found
code_text-requires-clause-found c = search rules
