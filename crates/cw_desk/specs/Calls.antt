-- What is noted of each call of the system: just its answer.
use Rattle.std.specs.Prelude.{ℕ, List, ◌∷◌, Option, Some, None, take}
use Rattle.std.specs.declared.fs.File.{File as SystemFile}
use Rattle.cw_base.specs.declared.event.Event.{Event}
use Rattle.cw_base.specs.declared.event.Out.{Out}
use Rattle.cw_desk.specs.Answer.{Answer, Opened as opened, Missing as missing, Read as read, End as ended}
use Rattle.cw_desk.specs.Journal.{grown}
use Rattle.cw_desk.specs.Make.{event_after, if_done}
use Rattle.cw_desk.specs.Put.{put_events}
use Rattle.cw_desk.specs.Trail.{TrailState, noted_after, with_answer}
use Rattle.cw_desk.specs.declared.desk.Opened.{Opened}
use Rattle.cw_desk.specs.declared.desk.Opened.TheVariants.{File as was_opened, Missing as was_missing}
use Rattle.cw_desk.specs.declared.desk.Opened.TheVariants.{Failed as failed_open, Memory as no_open}
use Rattle.cw_desk.specs.declared.desk.Fetched.{Fetched}
use Rattle.cw_desk.specs.declared.desk.Fetched.TheVariants.{Got, End, Failed as failed_read, Memory as no_memory}
use Rattle.cw_desk.specs.declared.desk.MadeOut.{MadeOut}
use Rattle.cw_desk.specs.declared.desk.Taken.{Taken}
use Rattle.cw_desk.specs.declared.note.Note.{Note}
use Rattle.cw_desk.specs.declared.system.calls.Look.{Look}
use Rattle.cw_desk.specs.declared.system.calls.Look.TheVariants.{File, Nothing, Failed as look_failed}
use Rattle.cw_desk.specs.declared.system.calls.FoundPlace.{FoundPlace}
use Rattle.cw_desk.specs.declared.system.calls.FoundPlace.TheVariants.{Here, Elsewhere, Missing, Failed, Memory}

abbrev pub after_look : ℕ → List ℕ → Look → TrailState → TrailState
after_look number name (File file) noted = with_answer (opened number name) noted
after_look number name Nothing noted = noted
after_look number name look_failed noted = noted

abbrev pub after_found : ℕ → List ℕ → FoundPlace → TrailState → TrailState
after_found number name (Here file) noted = with_answer (opened number name) noted
after_found number name (Elsewhere file) noted = with_answer (opened number name) noted
after_found number name Missing noted = with_answer (missing name) noted
after_found number name Failed noted = noted
after_found number name Memory noted = noted

-- ## What was heard after a call that opens or reads

abbrev pub heard_after_open : List ℕ → Opened → List Answer → List Answer
heard_after_open name (was_opened id) heard = opened id.index name ∷ heard
heard_after_open name was_missing heard = missing name ∷ heard
heard_after_open name failed_open heard = heard
heard_after_open name no_open heard = heard

abbrev pub heard_after_read : ℕ → List ℕ → Fetched → List Answer → List Answer
heard_after_read index buffer (Got n) heard = read index (take n buffer) ∷ heard
heard_after_read index buffer End heard = ended index ∷ heard
heard_after_read index buffer failed_read heard = heard
heard_after_read index buffer no_memory heard = heard

-- ## What is noted after a call

abbrev pub after_opening : List ℕ → Opened → TrailState → TrailState
after_opening name result noted = record noted { heard = heard_after_open name result noted.heard }

abbrev pub after_reading : ℕ → List ℕ → Fetched → TrailState → TrailState
after_reading number buffer result noted = record noted { heard = heard_after_read number buffer result noted.heard }

abbrev pub after_writing : Out → List ℕ → Taken → TrailState → TrailState
after_writing out bytes result noted = record noted { journal = grown noted.journal (put_events out bytes result) }

-- ## A call that begins or ends an output

-- one that begins it: this note, where there is a file
abbrev pub after_creating : Note → Option SystemFile → TrailState → TrailState
after_creating note (Some file) noted = noted_after note noted
after_creating note None noted = noted

-- one that begins or ends it: this note, where it is done
abbrev pub after_turn : Note → MadeOut → TrailState → TrailState
after_turn note result noted = if_done result (noted_after note noted) noted

-- the same by the event of which the note tells
abbrev pub after_event : Event → MadeOut → TrailState → TrailState
after_event event result noted = record noted { journal = grown noted.journal (event_after result event) }
