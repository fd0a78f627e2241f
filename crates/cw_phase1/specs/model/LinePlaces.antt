-- Where a line of the merged text begins, and which line has a byte.
use Rattle.std.specs.Prelude.{ℕ, ◌+◌, ◌<◌, ◌≤◌, List, length, take}
use Rattle.cw_base.specs.Web.{MergedLine, text_of}

abbrev pub offset : List MergedLine → ℕ → ℕ
offset lines i = length (text_of (take i lines))

-- the line has the byte, or is the last one and the byte stands behind it
pub record IsLineOf (lines : List MergedLine) (byte i : ℕ) : Type 0 where
  pub within : i < length lines
  pub begins : offset lines i ≤ byte
  pub ends : i + 1 < length lines → byte < offset lines (i + 1)
