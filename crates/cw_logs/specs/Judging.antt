-- What is found of a log.
use Rattle.std.specs.Prelude.{◌≡◌, ◌≢◌, ℕ, suc, ◌≤◌, Bool, true, not, ◌&&◌, ◌==◌, nat_eq, List, [], ◌∷◌, length}
use Rattle.std.specs.Prelude.{slice_get, Option, Some, None, if◌then◌else◌}
use Rattle.cw_base.specs.declared.flags.Flags.{Flags}
use Rattle.cw_table.specs.Normal.{Production, log as log_of, normal, steps}
use Rattle.cw_table.specs.Productions.{productions}
use Rattle.cw_table.specs.Reaching.{IsAfter}
use Rattle.cw_table.specs.Rewriting.{State}
use Rattle.cw_rewrite.specs.Telling.{WatchState}
use Rattle.cw_logs.specs.declared.checking.Verdict.{Verdict}
use Rattle.cw_logs.specs.declared.checking.Verdict.TheVariants.{Accepted, Rejected}

abbrev pub same_item : Production → Production → Bool
same_item p q = nat_eq p.number q.number && nat_eq p.place q.place

-- the length of the longest common prefix
abbrev pub common : List Production → List Production → ℕ
common [] qs = 0
common (p ∷ ps) [] = 0
common (p ∷ ps) (q ∷ qs) = if same_item p q then suc (common ps qs) else 0

-- A log is accepted exactly where it is that of the productions; else the length of the longest common prefix is told.
abbrev pub Judges : List Production → List Production → Verdict → Type 0
Judges log is Accepted = log ≡ is
Judges log is (Rejected m) = (log ≢ is) × (m ≡ common log is)

-- The state is normal, or that after as many productions as are the same.
abbrev pub StandsAt : Flags → State → State → Verdict → Type 0
StandsAt flags start now Accepted = now ≡ normal productions flags start
StandsAt flags start now (Rejected m) = now ≡ steps productions flags m start

-- The state is that after as many productions as give its weight, which are no more than are the same.
pub record StopsWithin (flags : Flags) (start now : State) (log : List Production) : Type 0 where
  pub after : IsAfter productions flags start now
  pub within : after.number ≤ common log (log_of productions flags start)

-- a log, and how many of its productions were done
pub record LogPosition : Type 0 where
  pub log : List Production
  pub at : ℕ

-- these productions were told, of a text that isn't looked at
abbrev pub told_alone : List Production → Option WatchState
told_alone items = Some (record { items = items; begun = []; ended = [] })

-- the next production of the log isn't this one
abbrev pub differs_from : Option Production → Production → Bool
differs_from None p = true
differs_from (Some q) p = not (same_item q p)

abbrev pub refused_by : List Production → ℕ → Production → Bool
refused_by log at p = differs_from (slice_get log at) p

abbrev pub verdict_of : Bool → LogPosition → Verdict
verdict_of ended c = if ended && (c.at == length c.log) then Accepted else Rejected c.at
