-- The models beside `specs/Line`.
use Rattle.std.specs.Prelude.{◌≡◌, ℕ, ◌+◌, ◌≢◌, All, map, List, []}
use Rattle.std.specs.Prelude.{◌∷◌, ◌++◌, length}
use Rattle.cw_lines.specs.Cut.{CutText, broken_numbers, written}
use Rattle.cw_lines.specs.Line.{Filled, Line, as_count, ended}

-- more bytes, where there is room
abbrev pub with_text : Line → List ℕ → Line
with_text line text = record line { pending = line.pending ++ text }

-- a line from which these lines were cut, and their bytes: what `fill` makes, in the words of the definition of cutting
abbrev pub filled_with : Line → CutText → Filled
filled_with line cut = record {
  line = record {
    out = line.out;
    pending = cut.pending;
    lines = as_count (line.lines + length cut.lines);
    broken = line.broken ++ map as_count (broken_numbers line.lines cut.lines);
  };
  written = written cut.lines;
}

abbrev pub HasNoLineEnd : List ℕ → Type 0
HasNoLineEnd text = All (λ byte. byte ≢ 10) text

-- a line that ends with byte 10 and holds no other byte 10
pub record IsEndedLine (line : List ℕ) : Type 0 where
  pub text : List ℕ
  pub ended : line ≡ text ++ 10 ∷ []
  pub one : HasNoLineEnd text
