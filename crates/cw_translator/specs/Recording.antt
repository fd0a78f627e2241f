-- What is told of texts that end.
use Rattle.std.specs.Prelude.{◌≡◌, ℕ, ◌≤◌, Option, Some, None, List, [], ◌∷◌, ◌++◌, length, map, take, Result, OnOk}
use Rattle.cw_base.specs.declared.flags.Flags.{Flags}
use Rattle.cw_base.specs.declared.memory.Memory.{Memory}
use Rattle.cw_trees.specs.Joining.{Scrap}
use Rattle.cw_leaves.specs.declared.lines.TextLog.{TextLog}
use Rattle.cw_leaves.specs.Spelling.{item_of, line_of}
use Rattle.cw_table.specs.Normal.{log}
use Rattle.cw_table.specs.Productions.{productions}
use Rattle.cw_table.specs.Rewriting.{State}
use Rattle.cw_rewrite.specs.Telling.{WatchState}

-- a text begins with these scraps
abbrev pub begun_over : List Scrap → Option WatchState → Option WatchState
begun_over scraps None = None
begun_over scraps (Some told) = Some (record told { items = []; begun = map line_of scraps })

-- the text that was told of
abbrev pub told_text : WatchState → TextLog
told_text told = record { leaves = told.begun; items = map item_of told.items }

-- it ends, and nothing is told of the next one
abbrev pub ended_now : Option WatchState → Option WatchState
ended_now None = None
ended_now (Some told) = Some (record { items = []; begun = []; ended = told.ended ++ told_text told ∷ [] })

-- the texts that have ended, and more of them
abbrev pub texts_told : Option WatchState → Option (List TextLog)
texts_told None = None
texts_told (Some told) = Some told.ended

abbrev pub longer_by : List TextLog → Option (List TextLog) → Option (List TextLog)
longer_by more None = None
longer_by more (Some texts) = Some (texts ++ more)

-- the log of a text
abbrev pub logged : Flags → State → TextLog
logged flags state = record {
  leaves = map line_of state.scraps;
  items = map item_of (log productions flags state);
}

-- A first part of the texts that ended was told, and all of them where the call was not refused.
pub record HasRecorded {T : Type 0} (flags : Flags) (states : List State) (before told : Option WatchState)
    (result : Result T Memory) : Type 0 where
  pub number : ℕ
  pub within : number ≤ length states
  pub is : texts_told told ≡ longer_by (map (logged flags) (take number states)) (texts_told before)
  pub all : OnOk result (length states ≤ number)
