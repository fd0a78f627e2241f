-- The token of a number among the scanner's answers.
use Rattle.std.specs.Prelude.{ℕ, ◌==◌, List, [], ◌∷◌, Option, Some, None, if◌then◌else◌}
use Rattle.cw_rules.specs.Answers.{Answer, Token, Begin, Finish, Note, Seen}

-- A token's number is the place of its first byte; a comment has that of its beginning.
abbrev pub numbered : ℕ → List Answer → Option Seen
numbered number [] = None
numbered number (Token token ∷ answers) =
    if token.span.start == number then Some token
    else numbered number answers
numbered number (Begin token ∷ answers) =
    if token.span.start == number then Some token
    else numbered number answers
numbered number (Finish token ∷ answers) = numbered number answers
numbered number (Note note place ∷ answers) = numbered number answers
