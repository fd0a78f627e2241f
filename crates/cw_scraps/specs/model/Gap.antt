-- A list as the two ends of one vector with a gap between them.
use Rattle.std.specs.Prelude.{ℕ, ◌≤◌, List, ◌++◌, length, take, drop}
use Rattle.cw_scraps.specs.declared.line.LineEntry.{LineEntry}

-- what stands outside the gap
abbrev pub around : ℕ → ℕ → List LineEntry → List LineEntry
around left right items = take left items ++ drop right items

pub record IsGap (left right : ℕ) (items : List LineEntry) : Type 0 where
  pub order : left ≤ right
  pub within : right ≤ length items
