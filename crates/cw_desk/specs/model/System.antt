-- What contracts see of the system, and what each call changes of it.
use Rattle.std.specs.Prelude.{ℕ, ◌+◌, List}
use Rattle.cw_base.specs.declared.event.Event.{Event}
use Rattle.cw_base.specs.declared.event.Event.TheVariants.{Drafted, Kept, Made, Replaced}
use Rattle.cw_base.specs.declared.event.Out.{Out}
use Rattle.cw_desk.specs.Calls.{after_event, after_opening, after_reading, after_writing}
use Rattle.cw_desk.specs.Make.{outputs_after}
use Rattle.cw_desk.specs.Meaning.{no_outputs, with_draft, with_output, without_draft}
use Rattle.cw_desk.specs.Trail.{TrailState}
use Rattle.cw_desk.specs.model.Trail.{nothing}
use Rattle.cw_desk.specs.declared.outputs.Outputs.{Outputs}
use Rattle.cw_desk.specs.declared.desk.Opened.{Opened}
use Rattle.cw_desk.specs.declared.desk.Opened.TheVariants.{File, Missing, Failed, Memory}
use Rattle.cw_desk.specs.declared.desk.Fetched.{Fetched}
use Rattle.cw_desk.specs.declared.desk.MadeOut.{MadeOut}
use Rattle.cw_desk.specs.declared.desk.Taken.{Taken}

pub record SystemState : Type 0 where
  pub opened : ℕ  -- how many files were opened
  pub outputs : Outputs  -- which outputs are made, and which have a draft
  pub noted : TrailState  -- what the system answered, and what it took and did

-- nothing was asked
abbrev pub untouched : SystemState
untouched = record { opened = 0; outputs = no_outputs; noted = nothing }

-- how many files are open after `open`
abbrev pub count_after : Opened → ℕ → ℕ
count_after (File id) count = count + 1
count_after Missing count = count
count_after Failed count = count
count_after Memory count = count

-- ## The system after each call

abbrev pub after_open : List ℕ → Opened → SystemState → SystemState
after_open name result s = record s {
  opened = count_after result s.opened;
  noted = after_opening name result s.noted;
}

abbrev pub after_read : ℕ → List ℕ → Fetched → SystemState → SystemState
after_read index buffer result s = record s { noted = after_reading index buffer result s.noted }

-- a call that begins or ends an output: after Done the outputs are these, and there is this event more
abbrev pub turned : Outputs → Event → MadeOut → SystemState → SystemState
turned done event result s = record s {
  outputs = outputs_after result done s.outputs;
  noted = after_event event result s.noted;
}

abbrev pub after_make : Out → List ℕ → MadeOut → SystemState → SystemState
after_make out name result s = turned (with_output out s.outputs) (Made out name) result s

abbrev pub after_draft : Out → List ℕ → MadeOut → SystemState → SystemState
after_draft out name result s = turned (with_draft out s.outputs) (Drafted out name) result s

abbrev pub after_keep : Out → MadeOut → SystemState → SystemState
after_keep out result s = turned (without_draft out s.outputs) (Kept out) result s

abbrev pub after_replace : Out → MadeOut → SystemState → SystemState
after_replace out result s = turned (without_draft out s.outputs) (Replaced out) result s

abbrev pub after_put : Out → List ℕ → Taken → SystemState → SystemState
after_put out bytes result s = record s { noted = after_writing out bytes result s.noted }
