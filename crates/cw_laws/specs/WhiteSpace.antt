-- What is passed over between tokens: white space, and a backslash only in a `#` line.
use Rattle.std.specs.Prelude.{◌≡◌, ℕ, ◌<◌, ◌≤◌, Bool, true, false, ◌&&◌, ◌||◌, ◌==◌, List, [], ◌∷◌, drop, length}
use Rattle.std.specs.Prelude.{if◌then◌else◌}
use Rattle.cw_rules.specs.declared.classes.Class.TheVariants.{White}
use Rattle.cw_rules.specs.declared.tokens.Mode.{Mode}
use Rattle.cw_rules.specs.declared.tokens.TokKind.{TokKind}
use Rattle.cw_rules.specs.declared.tokens.TokKind.TheVariants as kinds
use Rattle.cw_rules.specs.Answers.{Answer, Token, Begin, Finish, Note}
use Rattle.cw_base.specs.Bytes.{newline, backslash}
use Rattle.cw_rules.specs.Bytes.{begins, is_in}
use Rattle.cw_lex.specs.Lexing.{tokens_of}
use Rattle.cw_lex.specs.Nested.{is_section_kind}

-- A `#` line goes from its `#` up to its end, to a section code, or to the end of the text. So it goes on behind a
-- token, or not.
abbrev pub hash_line_by : Bool → TokKind → Bool
hash_line_by line kinds.HashLine = true
hash_line_by line kinds.HashLineEnd = false
hash_line_by line kind = line

abbrev pub hash_line_behind : Bool → TokKind → Bool
hash_line_behind line kind = if is_section_kind kind then false else hash_line_by line kind

-- The bytes begin with a blank or a line's end, or in a `#` line with a backslash before a line's end.
abbrev pub begins_space_in : Bool → List ℕ → Bool
begins_space_in line [] = false
begins_space_in line (byte ∷ bytes) = is_in White byte || (line && (byte == backslash && begins newline bytes))

-- Nothing else stands from one place up to another.
abbrev pub IsSpaceIn : List ℕ → Bool → ℕ → ℕ → Type 0
IsSpaceIn text line from end = (place : ℕ) → from ≤ place → place < end → begins_space_in line (drop place text) ≡ true

-- From one place up to another nothing else stands between the bytes of answers, where a `#` line goes on or not.
abbrev pub LeavesSpace : List ℕ → Bool → ℕ → ℕ → List Answer → Type 0
LeavesSpace text line from end [] = IsSpaceIn text line from end
LeavesSpace text line from end (Token t ∷ answers) =
    IsSpaceIn text line from t.span.start × LeavesSpace text (hash_line_behind line t.kind) t.span.end end answers
LeavesSpace text line from end (Begin t ∷ answers) =
    IsSpaceIn text line from t.span.start × LeavesSpace text line t.span.end end answers
LeavesSpace text line from end (Finish t ∷ answers) =
    IsSpaceIn text line from t.span.start × LeavesSpace text line t.span.end end answers
LeavesSpace text line from end (Note kind place ∷ answers) = LeavesSpace text line from end answers

-- A backslash is passed over only in a `#` line, before a line's end.
abbrev pub BackslashesContinueHashLines : Type 0
BackslashesContinueHashLines =
    (text : List ℕ) (start end : ℕ) (mode : Mode) → start ≤ end → end ≤ length text
    → LeavesSpace text false start end (tokens_of text start end mode)
