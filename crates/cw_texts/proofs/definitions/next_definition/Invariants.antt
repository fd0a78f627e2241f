-- The answers so far have ended no definition.
use Rattle.cw_texts.proofs.Terms.{◌≡◌, length, definitions_behind}
use Rattle.cw_texts.proofs.definitions.next_definition.Given as goal

abbrev pub invariant-answers : goal.invariant-answers
invariant-answers l = definitions_behind l.fn.begun l.«end» l.fn.lexer ≡ definitions_behind l.begun l.«end» l.lexer

abbrev pub decreases-answers : goal.decreases-answers
decreases-answers l = length l.lexer
