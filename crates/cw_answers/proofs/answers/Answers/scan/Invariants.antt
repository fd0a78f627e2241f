-- What is kept and what is still to come are all answers, and each answer leaves one less to come.
use Rattle.cw_answers.proofs.Terms.{length}
use Rattle.cw_answers.proofs.Standing.{Keeping}
use Rattle.cw_answers.proofs.answers.Answers.scan.Given as goal

abbrev pub invariant-loop-token : goal.invariant-loop-token
invariant-loop-token l = Keeping l.fn.text l.self-inside.text.now l.initial.lexer l.self-inside.kept.items l.lexer

abbrev pub decreases-loop-token : goal.decreases-loop-token
decreases-loop-token l = length l.lexer
