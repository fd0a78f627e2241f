-- Marks: numbers by which the names near a text are found.
use Rattle.std.specs.Prelude.{ℕ, Bool, ◌==◌}
use Rattle.std.specs.Prelude.{List}
use Rattle.std.specs.List.{list_any}

abbrev pub is_one_of : ℕ → List ℕ → Bool
is_one_of k positions = list_any (λ other. other == k) positions
