-- What is told of productions.
use Rattle.std.specs.Prelude.{◌≡◌, ℕ, ◌+◌, ◌<◌, ◌≤◌, Bool, true, Option, Some, None, List, ◌++◌, take, slice_get}
use Rattle.cw_base.specs.declared.flags.Flags.{Flags}
use Rattle.cw_leaves.specs.declared.lines.LeafLine.{LeafLine}
use Rattle.cw_leaves.specs.declared.lines.TextLog.{TextLog}
use Rattle.cw_table.specs.Normal.{count, log, steps, Production}
use Rattle.cw_table.specs.Productions.{productions}
use Rattle.cw_table.specs.Rewriting.{State}

-- What a watch has been told: the productions of the text that is reduced, the leaf lines of its scraps before that,
-- and the texts that have ended.
pub record WatchState : Type 0 where
  pub items : List Production
  pub begun : List LeafLine
  pub ended : List TextLog

-- more productions, where any are told
abbrev pub grown_by : List Production → Option WatchState → Option WatchState
grown_by more None = None
grown_by more (Some told) = Some (record told { items = told.items ++ more })

-- The walk stopped before a production that was refused, and what was told is the log up to there.
pub record StopsAt (flags : Flags) (start now : State) (before told : Option WatchState)
    (refuses : Production → Bool) : Type 0 where
  pub done : ℕ
  pub inside : done < count productions flags start
  pub is : now ≡ steps productions flags done start
  pub heard : told ≡ grown_by (take done (log productions flags start)) before
  pub next : Production
  pub there : slice_get (log productions flags start) done ≡ Some next
  pub refused : refuses next ≡ true

-- The walk ended for want of memory: a first part of the log was told, and all of it was done, or all but its last
-- production.
pub record EndsWithin (flags : Flags) (start now : State) (before told : Option WatchState) : Type 0 where
  pub done : ℕ
  pub is : now ≡ steps productions flags done start
  pub number : ℕ
  pub inside : number ≤ count productions flags start
  pub heard : told ≡ grown_by (take number (log productions flags start)) before
  pub all : done ≤ number
  pub but_one : number ≤ done + 1
