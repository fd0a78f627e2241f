-- What contracts see of a web: its lines, the names of its files, and the notes of reading.
use Rattle.std.specs.Prelude.{ℕ, ◌+◌, Bool, List, [], ◌∷◌, ◌++◌, length}
use Rattle.cw_base.specs.Bytes.{newline}
use Rattle.cw_base.specs.declared.notes.Note.{Note}
use Rattle.cw_base.specs.declared.notes.Place.{Place}
use Rattle.cw_base.specs.declared.web.LineInfo.{LineInfo}

-- one merged line: its bytes, where it was read, and whether a change file put it there
pub record MergedLine : Type 0 where
  pub text : List ℕ
  pub place : Place
  pub changed : Bool

pub record WebState : Type 0 where
  pub lines : List MergedLine
  pub files : List (List ℕ)
  pub notes : List Note

abbrev pub empty_web : WebState
empty_web = record { lines = []; files = []; notes = [] }

-- the text: the lines in order, each ended
abbrev pub text_of : List MergedLine → List ℕ
text_of [] = []
text_of (line ∷ lines) = line.text ++ newline ∷ text_of lines

-- where a line lies in the text, when it starts at this place there
abbrev pub info_from : ℕ → MergedLine → LineInfo
info_from start line = record {
  start = start;
  «end» = start + length line.text;
  place = line.place;
  changed = line.changed;
}

-- where each line lies in the text, when the first starts at this place
abbrev pub infos_of : ℕ → List MergedLine → List LineInfo
infos_of start [] = []
infos_of start (line ∷ lines) = info_from start line ∷ infos_of (start + length line.text + 1) lines
