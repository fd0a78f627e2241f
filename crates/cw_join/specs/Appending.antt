-- What stands after want of memory.
use Rattle.std.specs.Prelude.{◌≡◌, ℕ, List, ◌++◌}

-- the bytes that stood stand at the front, and maybe some more behind them
abbrev pub StaysBefore : List ℕ → List ℕ → Type 0
StaysBefore old new = (more : List ℕ) × (new ≡ old ++ more)
