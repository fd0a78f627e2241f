-- What is found of a file: it is a log, or one of its lines is the first that no log has.
use Rattle.std.specs.Prelude.{ℕ, List}
use Rattle.cw_logs.specs.LogReading.{IsFaultAt, IsLog}

pub data Judgement (lines : List (List ℕ)) : Type 0 where
  log : IsLog lines → Judgement lines
  no_log : (line : ℕ) → IsFaultAt lines line → Judgement lines
