-- What contracts see of the logs of texts.
use Rattle.std.specs.Prelude.{◌≡◌, ℕ, ◌≤◌, List, ◌++◌, length, map, take, Result, OnOk}
use Rattle.cw_base.specs.declared.flags.Flags.{Flags}
use Rattle.cw_base.specs.declared.memory.Memory.{Memory}
use Rattle.cw_leaves.specs.declared.lines.LeafLine.{LeafLine}
use Rattle.cw_leaves.specs.declared.lines.LogItem.{LogItem}
use Rattle.cw_leaves.specs.declared.lines.TextLog.{TextLog}
use Rattle.cw_table.specs.Rewriting.{State}
use Rattle.cw_translator.specs.Recording.{logged}

-- the texts that have ended, and the leaf lines and the productions of the one that is reduced
pub record LoggedTexts : Type 0 where
  pub ended : List TextLog
  pub leaves : List LeafLine
  pub items : List LogItem

-- The logs of these texts stand behind those before them; for want of memory only those of a first part, each whole.
pub record HasLogged {T : Type 0} (flags : Flags) (states : List State) (old new : List TextLog)
    (result : Result T Memory) : Type 0 where
  pub number : ℕ
  pub within : number ≤ length states
  pub is : new ≡ old ++ map (logged flags) (take number states)
  pub all : OnOk result (length states ≤ number)
