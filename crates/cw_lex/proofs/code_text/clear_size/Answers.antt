-- From each place before the next `>` or line's end the bytes run up to there, so the end is kept.
use Rattle.std.proofs.Common.{arith}
use Rattle.cw_rules.proofs.Runs.{run-inside}
use Rattle.cw_lex.proofs.code_text.clear_size.Goals as goal

pub returns-clause-clear : goal.returns-clause-clear
returns-clause-clear c = grind (arith, run-inside)
