-- How a web is kept: one text, and a table that says where each line lies in it.
use Rattle.std.specs.Prelude.{◌≡◌, ℕ, ◌+◌, ◌<◌, ◌≤◌, List, [], ◌∷◌, length, slice_index, slice_range, All}
use Rattle.cw_base.specs.Bytes.{newline}
use Rattle.cw_base.specs.declared.limits.TheConstants.{TEXT_LIMIT}
use Rattle.cw_base.specs.declared.notes.Note.{Note}
use Rattle.cw_base.specs.declared.web.LineInfo.{LineInfo}
use Rattle.cw_base.specs.Web.{MergedLine}

abbrev pub read_line : List ℕ → LineInfo → MergedLine
read_line text info = record {
  text = slice_range text info.start info.«end»;
  place = info.place;
  changed = info.changed;
}

-- the lines that the table finds in the text
abbrev pub read_lines : List ℕ → List LineInfo → List MergedLine
read_lines text [] = []
read_lines text (info ∷ infos) = read_line text info ∷ read_lines text infos

-- from this place on the lines of the table fill the text, an end behind each
abbrev pub Covers : List ℕ → ℕ → List LineInfo → Type 0
Covers text from [] = from ≡ length text
Covers text from (info ∷ infos) =
    (info.start ≡ from) × (info.start ≤ info.«end») × (info.«end» < length text)
    × (slice_index text info.«end» ≡ newline) × Covers text (info.«end» + 1) infos

-- what holds of a web's fields; files is the number of its files
pub record IsLaidOut (text : List ℕ) (infos : List LineInfo) (notes : List Note) (files : ℕ) : Type 0 where
  pub covers : Covers text 0 infos
  pub limit : length text ≤ TEXT_LIMIT
  pub line_places : All (λ info. info.place.file < files) infos
  pub note_places : All (λ note. note.place.file < files) notes
