-- The notes that are still to be answered.
use Rattle.std.specs.Prelude.{ℕ, ◌≤◌, List, [], ◌++◌, Option, Some, None, drop}
use Rattle.cw_rules.specs.declared.bodies.Inside.{Inside}
use Rattle.cw_rules.specs.declared.bodies.NoteAt.{NoteAt}
use Rattle.cw_rules.specs.declared.pending.Pending.{Pending}
use Rattle.cw_rules.specs.Bodies.{noted, one_note, and_last}

abbrev pub body_notes : List ℕ → Option Inside → List NoteAt
body_notes text None = []
body_notes text (Some i) = noted i (drop i.place text)

-- the notes from the first byte that has one, or from here on where none was met
abbrev pub notes_so_far : List ℕ → Option Inside → Inside → List NoteAt
notes_so_far text None i = noted i (drop i.place text)
notes_so_far text (Some first) i = noted first (drop first.place text)

abbrev pub pending_notes : List ℕ → Pending → List NoteAt
pending_notes text p = one_note p.first ++ (one_note p.second ++ and_last (body_notes text p.body) p.last)

abbrev pub no_notes : Pending
no_notes = record { first = None; second = None; body = None; last = None }

-- the place inside a body lies in a text of n bytes
abbrev pub IsInside : ℕ → Option Inside → Type 0
IsInside n None = Unit {0}
IsInside n (Some i) = (i.place ≤ n) × (i.braces ≤ i.place)
