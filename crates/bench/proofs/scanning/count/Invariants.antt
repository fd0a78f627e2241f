-- Each answer leaves one less to come.
use Rattle.std.proofs.Common.{length}
use Rattle.bench.proofs.scanning.count.Given as goal

abbrev pub decreases-loop-answers : goal.decreases-loop-answers
decreases-loop-answers l = length l.lexer
