-- What holds of what is held: sections and names come in order, behind all that came before.
use Rattle.std.specs.Prelude.{ℕ, ◌<◌, ◌^◌, List, [], Option, Some, None, All, IfSome, length}
use Rattle.cw_rules.specs.Answers.{Seen}
use Rattle.cw_secnames.specs.Uses.{NameUse}
use Rattle.cw_phase1.specs.declared.pass_state.Waiting.{Waiting as WaitingToken}
use Rattle.cw_phase1.specs.Roles.{at_limbo}
use Rattle.cw_phase1.specs.model.Telling.{IsKnown, told_start}
use Rattle.cw_phase1.specs.model.Holding.{HeldState, Waiting}

-- a token of a web
pub record IsToken (t : Seen) : Type 0 where
  pub some : t.span.start < t.span.«end»
  pub within : t.span.«end» < 2 ^ 32
  pub text : length t.text < 2 ^ 32

-- All names in the web that came stand before a place.
abbrev pub AreBefore : ℕ → List NameUse → Type 0
AreBefore place uses = All (λ u. u.place < place) uses

-- A name that waits is a token behind all names that came.
abbrev pub WaitsBehind : Option Waiting → List NameUse → Type 0
WaitsBehind None uses = Unit {0}
WaitsBehind (Some w) uses = IsToken w.token × AreBefore w.token.span.start uses

-- More can be told.
pub record CanTell (h : HeldState) : Type 0 where
  pub section : h.pass.standing.section < 4294967295
  pub known : IsKnown h.told.words

-- The name that waits can be settled.
pub record CanSettle (h : HeldState) : Type 0 where
  pub known : IsKnown h.told.words
  pub waits : WaitsBehind h.pass.waiting h.told.named.uses

-- The name that is kept for a name that waits is among so many.
abbrev pub WaitingIsKept : Option WaitingToken → ℕ → Type 0
WaitingIsKept None count = Unit {0}
WaitingIsKept (Some w) count = IfSome w.name (λ id. id.index < count)

-- before the first answer
abbrev pub held_start : HeldState
held_start = record {
  pass = record { standing = at_limbo; waiting = None };
  kept = [];
  told = told_start;
  remark = None;
  notes = [];
}
