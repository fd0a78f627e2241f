-- Inks that are printed one after another: what is printed so far, and whether the line of the book holds bytes then.
use Rattle.std.specs.Prelude.{ℕ, ◌==◌, ◌||◌, Bool, false, not, List, [], ◌∷◌, ◌++◌, length}
use Rattle.cw_base.specs.Bytes.{newline}
use Rattle.cw_lines.specs.Line.{LineState}
use Rattle.cw_press.specs.Inks.{Ink, Print, LineEnd, end_if}

-- the bytes of inks without the end of their last line
abbrev pub inked : Bool → List Ink → List ℕ
inked holds [] = []
inked holds (Print byte ∷ inks) = byte ∷ inked (not (byte == newline)) inks
inked holds (LineEnd empty ∷ inks) = end_if (holds || empty) ++ inked false inks

-- whether the line holds bytes behind inks, and behind bytes
abbrev pub held : Bool → List Ink → Bool
held holds [] = holds
held holds (Print byte ∷ inks) = held (not (byte == newline)) inks
held holds (LineEnd empty ∷ inks) = held false inks

abbrev pub held_behind : Bool → List ℕ → Bool
held_behind holds [] = holds
held_behind holds (byte ∷ bytes) = held_behind (not (byte == newline)) bytes

-- whether the line that is being filled holds bytes
abbrev pub holds_bytes : LineState → Bool
holds_bytes out = not (length out.line.pending == 0)
