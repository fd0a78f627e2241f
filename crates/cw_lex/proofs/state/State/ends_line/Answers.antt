-- `ends_line`: answer on one of its ways; said here, so that a wrong one fails at once.
use Rattle.std.proofs.Common.{arith}
use Rattle.std.proofs.lemmas.Grind.{common_steps}
use Rattle.cw_lex.proofs.state.State.ends_line.Goals as goal

pub returns-then-in_hash_line : goal.returns-then-in_hash_line
returns-then-in_hash_line c = grind (arith, common_steps)
