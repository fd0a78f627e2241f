-- What is told at the end of all answers stays the same, and each answer leaves one less to come.
use Rattle.cw_phase1.proofs.Terms.{length, text_of, held_of}
use Rattle.cw_phase1.proofs.Underway.{Underway}
use Rattle.cw_phase1.proofs.phase.hold_answers.Given as goal

abbrev pub invariant-answers : goal.invariant-answers
invariant-answers l = Underway l.web.lines (text_of l.web.lines) l.initial.lexer (held_of l.held) l.lexer

abbrev pub decreases-answers : goal.decreases-answers
decreases-answers l = length l.lexer
