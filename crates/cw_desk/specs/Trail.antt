-- What a ghost trail has noted, and what it notes of each call that a desk of real files makes.
use Rattle.std.specs.Prelude.{ℕ, List, [], ◌∷◌, ◌++◌}
use Rattle.cw_base.specs.declared.event.Event.{Event}
use Rattle.cw_base.specs.declared.event.Event.TheVariants.{Made, Drafted, Kept, Replaced}
use Rattle.cw_base.specs.declared.event.Out.{Out}
use Rattle.cw_desk.specs.Answer.{Answer, Opened, Missing, Read, End}
use Rattle.cw_desk.specs.Journal.{byte_events}
use Rattle.cw_desk.specs.declared.note.Note.{Note}
use Rattle.cw_desk.specs.declared.note.Note.TheVariants.{Opened as was_opened, Missing as was_missing, Read as was_read}
use Rattle.cw_desk.specs.declared.note.Note.TheVariants.{End as was_end, Made as was_made, Drafted as was_drafted}
use Rattle.cw_desk.specs.declared.note.Note.TheVariants.{Kept as was_kept, Replaced as was_replaced, Took}

pub record TrailState : Type 0 where
  pub heard : List Answer  -- what the system answered, the newest first
  pub journal : List Event  -- what the system took and did

-- one answer more
abbrev pub with_answer : Answer → TrailState → TrailState
with_answer answer n = record n { heard = answer ∷ n.heard }

-- one event more
abbrev pub with_event : Event → TrailState → TrailState
with_event event n = record n { journal = n.journal ++ event ∷ [] }

-- bytes more
abbrev pub with_bytes : Out → List ℕ → TrailState → TrailState
with_bytes out bytes n = record n { journal = n.journal ++ byte_events out bytes }

-- what is noted of a call
abbrev pub noted_after : Note → TrailState → TrailState
noted_after (was_opened index name) n = with_answer (Opened index name.now) n
noted_after (was_missing name) n = with_answer (Missing name.now) n
noted_after (was_read index bytes) n = with_answer (Read index bytes.now) n
noted_after (was_end index) n = with_answer (End index) n
noted_after (was_made out name) n = with_event (Made out name.now) n
noted_after (was_drafted out name) n = with_event (Drafted out name.now) n
noted_after (was_kept out) n = with_event (Kept out) n
noted_after (was_replaced out) n = with_event (Replaced out) n
noted_after (Took out bytes) n = with_bytes out bytes.now n
