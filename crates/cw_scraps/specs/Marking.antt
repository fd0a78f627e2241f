-- What contracts see of the names that productions underlined.
use Rattle.std.specs.Prelude.{ℕ, List, map}
use Rattle.cw_names.specs.declared.NameId.{NameId}

-- the names in order, and how many more there is room for
pub record MarkList : Type 0 where
  pub names : List NameId
  pub spare : ℕ

-- their numbers
abbrev pub marked_names : MarkList → List ℕ
marked_names marks = map (λ name. name.index) marks.names
