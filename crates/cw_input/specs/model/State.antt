-- What the fields of the state mean: offsets into the change file stand for its lines.
use Rattle.std.specs.Prelude.{◌≡◌, ℕ, zero, suc, ◌+◌, ◌-◌, ◌*◌, ◌<◌, ◌≤◌, Bool, false, List, [], ◌∷◌, ◌++◌, length}
use Rattle.std.specs.Prelude.{drop, slice_range, Option, Some, None, ⊤}
use Rattle.cw_base.specs.declared.limits.TheConstants.{INPUT_LIMIT, TEXT_LIMIT}
use Rattle.cw_base.specs.Text.{lines_of}
use Rattle.cw_base.specs.Web.{text_of}
use Rattle.cw_base.specs.declared.notes.NoteKind.{NoteKind}
use Rattle.cw_base.specs.declared.notes.Place.{Place}
use Rattle.cw_input.specs.Lines.{FileLine, numbered_lines}
use Rattle.cw_input.specs.model.Fold.{FoldInto, MergeState, Group, Over, Pending, Waiting}
use Rattle.cw_input.specs.declared.merger.Merger.{Merger}
use Rattle.cw_input.specs.declared.phase.Cursor.{Cursor}
use Rattle.cw_input.specs.declared.phase.Meets.{Meets}
use Rattle.cw_input.specs.declared.phase.Meets.TheVariants.{Nothing, MatchLine, OldLine}
use Rattle.cw_input.specs.declared.phase.Phase.{Phase}
use Rattle.cw_input.specs.declared.phase.Phase.TheVariants.{Outside, Opening, Skipping, Old, Spent, New}
use Rattle.cw_input.specs.declared.phase.LineSpan.{LineSpan}

-- a line and its place
abbrev pub line_of : List ℕ → Place → FileLine
line_of text place = record { text = text; place = place }

-- the lines of a file from an offset on, when so many stand before it
abbrev pub lines_from : ℕ → ℕ → ℕ → List ℕ → List FileLine
lines_from file line at bytes = numbered_lines file line (lines_of (drop at bytes))

-- a line of the change file, and the lines that follow a place in it
abbrev pub line_at : List ℕ → LineSpan → FileLine
line_at change piece =
    record { text = slice_range change piece.start piece.«end»; place = record { file = 1; line = piece.line } }

abbrev pub rest_of : List ℕ → Cursor → List FileLine
rest_of change rest = lines_from 1 rest.line rest.at change

abbrev pub group_of : List ℕ → Meets → Group
group_of change Nothing = Over
group_of change (MatchLine piece rest) = Pending (line_at change piece) (rest_of change rest)
group_of change (OldLine piece differ rest) = Waiting (line_at change piece) differ (rest_of change rest)

abbrev pub state_of : List ℕ → Merger → MergeState
state_of change m = record { web = m.web; sum = m.sum; mark = m.mark; group = group_of change m.meets }

-- what is done with the lines of an included file, when so many files deep may still be included
abbrev pub into_at : ℕ → (List FileLine → MergeState → Option MergeState) → FoldInto
into_at zero next = None
into_at (suc left) next = Some next

-- the state with a note, a line or a file more
abbrev pub with_note : NoteKind → ℕ → Place → Merger → Merger
with_note kind value place m =
    record m { web = record m.web { notes = m.web.notes ++ record { kind = kind; value = value; place = place } ∷ [] } }

abbrev pub with_line : List ℕ → Place → Bool → Merger → Merger
with_line text place changed m =
    record m {
      web = record m.web {
        lines =
            m.web.lines ++ record { text = text; place = place; changed = changed } ∷ [];
      };
      mark = false;
    }

abbrev pub with_file : List ℕ → ℕ → Merger → Merger
with_file name size m = record m { web = record m.web { files = m.web.files ++ name ∷ [] }; sum = m.sum + size }

-- offsets lie within the change file, lines are no more than bytes, and the place behind a line counts that line
pub record IsPiece (change : List ℕ) (piece : LineSpan) (rest : Cursor) : Type 0 where
  pub order : piece.start ≤ piece.«end»
  pub within : piece.«end» ≤ length change
  pub numbered : piece.line ≡ rest.line

pub record IsCursor (change : List ℕ) (rest : Cursor) : Type 0 where
  pub within : rest.at ≤ length change
  pub lines : rest.line ≤ rest.at

-- a group that waits has its lines in the change file, which is the second of the files
abbrev pub IsMet : List ℕ → ℕ → Meets → Type 0
IsMet change files Nothing = ⊤
IsMet change files (MatchLine piece rest) = IsPiece change piece rest × IsCursor change rest × (1 < files)
IsMet change files (OldLine piece differ rest) = IsPiece change piece rest × IsCursor change rest × (1 < files)
    × (differ < rest.line)

-- of that only the second: a group that waits is one of the second file
abbrev pub IsListed : ℕ → Meets → Type 0
IsListed files Nothing = ⊤
IsListed files (MatchLine piece rest) = 1 < files
IsListed files (OldLine piece differ rest) = 1 < files

-- no more lines differ than were compared
abbrev pub IsPhase : ℕ → Phase → Type 0
IsPhase line Outside = ⊤
IsPhase line Opening = ⊤
IsPhase line Skipping = ⊤
IsPhase line (Old differ) = differ ≤ line
IsPhase line (Spent differ) = differ ≤ line
IsPhase line New = ⊤

-- how many bytes of the change file stand behind what waits
abbrev pub ahead : List ℕ → Meets → ℕ
ahead change Nothing = 0
ahead change (MatchLine piece rest) = length change - rest.at
ahead change (OldLine piece differ rest) = length change - rest.at

-- There is room for so many bytes of text and so many files beside all that may still be read: a byte that is read is
-- worth two bytes of text, itself and a byte 10 behind it, and one file.
pub record HasRoom (text files : ℕ) (m : Merger) : Type 0 where
  pub for_text : length (text_of m.web.lines) + text + 2 * (INPUT_LIMIT - m.sum) ≤ TEXT_LIMIT
  pub for_files : length m.web.files + files + (INPUT_LIMIT - m.sum) ≤ INPUT_LIMIT + 2
  pub for_bytes : m.sum ≤ INPUT_LIMIT

-- the room for the first two numbers was enough to leave room for the others
pub record Moves (text files text_left files_left : ℕ) (old new : Merger) : Type 0 where
  pub of_text : length (text_of new.web.lines) + text_left + 2 * (INPUT_LIMIT - new.sum)
      ≤ length (text_of old.web.lines) + text + 2 * (INPUT_LIMIT - old.sum)
  pub of_files : length new.web.files + files_left + (INPUT_LIMIT - new.sum)
      ≤ length old.web.files + files + (INPUT_LIMIT - old.sum)
  pub of_bytes : new.sum ≤ INPUT_LIMIT
  pub more_files : length old.web.files ≤ length new.web.files
