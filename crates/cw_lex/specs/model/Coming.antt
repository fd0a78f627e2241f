-- What is still to come of a scanner's answers, and what holds of a scanner.
use Rattle.std.specs.Prelude.{◌≡◌, ℕ, ◌+◌, ◌-◌, ◌<◌, ◌≤◌, Bool, true, false, List, [], ◌∷◌, ◌++◌, length, drop}
use Rattle.std.specs.Prelude.{slice_index, not, ◌&&◌, ◌==◌, Option, Some, None, if◌then◌else◌}
use Rattle.cw_base.specs.model.Conditions.{one_if}
use Rattle.cw_rules.specs.declared.classes.Class.TheVariants as classes
use Rattle.cw_rules.specs.declared.parts.Part.{Part}
use Rattle.cw_rules.specs.declared.parts.Part.TheVariants as parts
use Rattle.cw_rules.specs.declared.parts.Opened.{Opened}
use Rattle.cw_rules.specs.declared.tokens.Mode.{Mode}
use Rattle.cw_rules.specs.declared.tokens.Mode.TheVariants as modes
use Rattle.cw_rules.specs.declared.tokens.Lexed.{Lexed}
use Rattle.cw_rules.specs.declared.tokens.Lexed.TheVariants as lexed
use Rattle.cw_lex.specs.declared.state.Clear.{Clear}
use Rattle.cw_lex.specs.declared.state.State.{State}
use Rattle.cw_base.specs.Bytes.{newline, backslash}
use Rattle.cw_rules.specs.Bytes.{is_in, run}
use Rattle.cw_rules.specs.Answers.{Answer, Finish, Note, seen, Where, ScanStep, note_answers}
use Rattle.cw_rules.specs.Pending.{pending_notes, no_notes, IsInside}
use Rattle.cw_rules.specs.Tokens.{in_hash_line, is_space, found, is_code, is_head_part}
use Rattle.cw_lex.specs.Lexing.{answers_at, last_at, spot_at}

abbrev pub where_of : State → Where
where_of s = record { part = s.part; comments = s.comments }

abbrev pub coming : List ℕ → State → List Answer
coming text s = note_answers (pending_notes text s.pending) ++ answers_at text (where_of s) s.at

-- what begins at a place of a text
abbrev pub found_at : List ℕ → Where → ℕ → ScanStep
found_at text w place = found (spot_at text w place) (slice_index text place) (drop (place + 1) text)

-- the open braces of the comments are not more than the bytes before a place
abbrev pub AllWithin : ℕ → List Opened → Type 0
AllWithin n [] = Unit {0}
AllWithin n (c ∷ comments) = (c.braces ≤ n) × AllWithin n comments

-- each comment was opened in C text
abbrev pub AreOpenInCode : Part → List Opened → Type 0
AreOpenInCode part [] = Unit {0}
AreOpenInCode part (c ∷ comments) = (is_code part comments ≡ true) × AreOpenInCode part comments

-- White space of C text stands here, which gives no answer.
abbrev pub ends_line : Part → List Opened → ℕ → Bool
ends_line part [] last = in_hash_line part && not (last == backslash)
ends_line part (c ∷ comments) last = not c.long

abbrev pub is_white_here : Part → List Opened → ℕ → ℕ → List ℕ → Bool
is_white_here part comments last byte bytes =
    if byte == newline then not (ends_line part comments last) else is_space part byte bytes

-- no `>` and no line's end stand in a stretch of the text, and it is followed by one of them or by the end
pub record IsClear (text : List ℕ) (c : Clear) : Type 0 where
  pub within : c.to ≤ length text
  pub runs : (place : ℕ) → c.from ≤ place → place ≤ c.to → run classes.IncludeName (drop place text) ≡ c.to - place

-- What holds of a scanner. One more comment may be open where C text goes on.
pub record IsReady (text : List ℕ) (s : State) : Type 0 where
  pub within : s.at ≤ length text
  pub depth : length s.comments + one_if (is_code s.part s.comments) ≤ 21
  pub nested : AreOpenInCode s.part s.comments
  pub braces : AllWithin s.at s.comments
  pub notes : IsInside (length text) s.pending.body
  pub clear : IsClear text s.clear

-- and where a byte is there and no note is left
pub record CanStep (text : List ℕ) (s : State) : Type 0 where
  pub ready : IsReady text s
  pub quiet : s.pending ≡ no_notes
  pub place : s.at < length text

-- What is open is cut off one after another: this is the next answer, and these are those behind it.
abbrev pub CutsOff : List Answer → Option Lexed → List Answer → Type 0
CutsOff old None new = old ≡ []
CutsOff old (Some (lexed.Finish t)) new = old ≡ Finish (seen t) ∷ new
CutsOff old (Some (lexed.Note kind place)) new = old ≡ Note kind place ∷ new
CutsOff old (Some other) new = ⊥

-- A byte stands here that gives no answer: white space of C text, or a blank before the sign of a head.
abbrev pub is_skipped : Part → List Opened → ℕ → ℕ → List ℕ → Bool
is_skipped part comments last byte bytes =
    if is_head_part part comments then is_in classes.Blank byte
    else is_code part comments && is_white_here part comments last byte bytes

pub record IsSkipped (text : List ℕ) (s : State) : Type 0 where
  pub none : s.at < length text → is_skipped s.part s.comments (last_at text s.at) (slice_index text s.at)
      (drop (s.at + 1) text) ≡ false

-- the part in which a mode begins
abbrev pub beginning_part : Mode → Part
beginning_part modes.Limbo = parts.Limbo
beginning_part modes.TexText = parts.Tex
beginning_part modes.CPart = parts.Begin
beginning_part modes.Definition = parts.Definition
beginning_part modes.Inner = parts.Inner
