-- What a call appends to a text, and the block of a text's log.
use Rattle.std.specs.Prelude.{◌≡◌, ℕ, List, ◌++◌, map, Result, OnOk, OnErr}
use Rattle.cw_names.specs.Names.{Entry}
use Rattle.cw_leaves.specs.declared.lines.TextLog.{TextLog}
use Rattle.cw_leaves.specs.Spelling.{production_of, spelled}
use Rattle.cw_logs.specs.LogText.{Block}

-- A beginning of these bytes is appended.
pub record HasGrown (added old new : List ℕ) : Type 0 where
  pub some : List ℕ
  pub rest : List ℕ
  pub all : added ≡ some ++ rest
  pub is : new ≡ old ++ some

-- All of these bytes are appended, or after Memory a beginning of them.
pub record Appends {A E : Type 0} (added old new : List ℕ) (result : Result A E) : Type 0 where
  pub ok : OnOk result (new ≡ old ++ added)
  pub err : OnErr result (HasGrown added old new)

abbrev pub block_of : List Entry → TextLog → Block
block_of names log = record { leaves = map (spelled names) log.leaves; items = map production_of log.items }
