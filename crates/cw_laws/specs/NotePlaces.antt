-- Where the notes of the scanner lie.
use Rattle.std.specs.Prelude.{ℕ, ◌<◌, ◌≤◌, List, [], ◌∷◌, length}
use Rattle.cw_rules.specs.declared.tokens.Mode.{Mode}
use Rattle.cw_rules.specs.Answers.{Answer, Token, Begin, Finish, Note}
use Rattle.cw_lex.specs.Lexing.{tokens_of}

-- Each note among answers is about a byte from one place up to another.
abbrev pub NotesLie : ℕ → ℕ → List Answer → Type 0
NotesLie start end [] = Unit {0}
NotesLie start end (Token t ∷ answers) = NotesLie start end answers
NotesLie start end (Begin t ∷ answers) = NotesLie start end answers
NotesLie start end (Finish t ∷ answers) = NotesLie start end answers
NotesLie start end (Note kind place ∷ answers) = (start ≤ place) × (place < end) × NotesLie start end answers

-- Each note is about a byte of what was scanned.
abbrev pub NotesLieInTheirText : Type 0
NotesLieInTheirText =
    (text : List ℕ) (start end : ℕ) (mode : Mode) → start ≤ end → end ≤ length text
    → NotesLie start end (tokens_of text start end mode)
