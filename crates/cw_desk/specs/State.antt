-- What a desk tells, and what each call changes of it.
use Rattle.std.specs.Prelude.{◌≡◌, ◌≢◌, ℕ, ◌+◌, ◌<◌, ◌≤◌, List, ◌∷◌}
use Rattle.cw_base.specs.declared.event.Event.{Event}
use Rattle.cw_base.specs.declared.event.Event.TheVariants.{Drafted, Kept, Made, Replaced}
use Rattle.cw_base.specs.declared.event.Out.{Out}
use Rattle.cw_desk.specs.Journal.{grown}
use Rattle.cw_desk.specs.Make.{event_after, outputs_after}
use Rattle.cw_desk.specs.Meaning.{Files, Rose, with_draft, with_output, without_draft}
use Rattle.cw_desk.specs.Open.{OpensNext, OpensNamed}
use Rattle.cw_desk.specs.Put.{TakesSome, put_events}
use Rattle.cw_desk.specs.Read.{ReadsSome, ReadsNext, brought}
use Rattle.cw_desk.specs.declared.outputs.Outputs.{Outputs}
use Rattle.cw_desk.specs.declared.desk.Opened.{Opened}
use Rattle.cw_desk.specs.declared.desk.Opened.TheVariants.{Failed as failed_open}
use Rattle.cw_desk.specs.declared.desk.Fetched.{Fetched}
use Rattle.cw_desk.specs.declared.desk.Fetched.TheVariants.{Failed as failed_read}
use Rattle.cw_desk.specs.declared.desk.MadeOut.{MadeOut}
use Rattle.cw_desk.specs.declared.desk.MadeOut.TheVariants.{Failed as failed_make}
use Rattle.cw_desk.specs.declared.desk.Taken.{Taken}
use Rattle.cw_desk.specs.declared.desk.Taken.TheVariants.{Failed as failed_put}

-- Files agree with a desk if they would have given all that it has answered so far.
pub record DeskState : Type 1 where
  pub opened : ℕ  -- how many files were opened
  pub outputs : Outputs  -- which outputs are made, and which have a draft
  pub agrees : Files → Type 0
  pub rest : Files → ℕ → List ℕ  -- what of files that agree is unread of each opened file
  pub came : ℕ  -- how many bytes its reads have brought
  pub journal : List Event  -- all that was made and written
  pub handed : ℕ  -- so many of these events, if not more, were handed on to a desk below
  pub faults : ℕ
  pub names : List ℕ  -- the ghost names of the references through which the desk is lent

-- Files that agree after some calls agreed before them.
abbrev pub Narrows : DeskState → DeskState → Type 0
Narrows old new = (files : Files) → new.agrees files → old.agrees files

-- Calls that put bytes and make nothing: they change the journal alone, but that more of it may be handed on, fewer
-- files may agree, and the count of faults may rise.
pub record OnlyPuts (old new : DeskState) : Type 0 where
  pub same_names : new.names ≡ old.names
  pub same_opened : new.opened ≡ old.opened
  pub same_outputs : new.outputs ≡ old.outputs
  pub narrows : Narrows old new
  pub same_rests : new.rest ≡ old.rest
  pub same_came : new.came ≡ old.came
  pub handed_kept : old.handed ≤ new.handed
  pub faults_kept : old.faults ≤ new.faults

-- Calls that open and read files: outputs and journal stay, and so does what is unread of the files that were open
-- before. Bytes may have come, fewer files may agree, more of the journal may be handed on, and the count of faults may
-- rise.
pub record OnlyReads (old new : DeskState) : Type 0 where
  pub same_names : new.names ≡ old.names
  pub opened_kept : old.opened ≤ new.opened
  pub same_outputs : new.outputs ≡ old.outputs
  pub narrows : Narrows old new
  pub same_rests : (files : Files) (i : ℕ) → i < old.opened → new.rest files i ≡ old.rest files i
  pub came_kept : old.came ≤ new.came
  pub same_journal : new.journal ≡ old.journal
  pub handed_kept : old.handed ≤ new.handed
  pub faults_kept : old.faults ≤ new.faults

pub record Opens (name : List ℕ) (result : Opened) (old new : DeskState) : Type 0 where
  pub same_names : new.names ≡ old.names
  pub next : OpensNext old.opened new.opened result
  pub named : (files : Files) → new.agrees files → OpensNamed files name (new.rest files) result
  pub same_rests : (files : Files) (i : ℕ) → i < old.opened → new.rest files i ≡ old.rest files i
  pub same_came : new.came ≡ old.came
  pub narrows : Narrows old new
  pub same_outputs : new.outputs ≡ old.outputs
  pub same_journal : new.journal ≡ old.journal
  pub handed_kept : old.handed ≤ new.handed
  pub faults_kept : old.faults ≤ new.faults
  pub failed : result ≡ failed_open → Rose old.faults new.faults

pub record Reads (index : ℕ) (buffer : List ℕ) (result : Fetched) (old new : DeskState) : Type 0 where
  pub same_names : new.names ≡ old.names
  pub some : ReadsSome buffer result
  pub next : (files : Files) → new.agrees files
      → ReadsNext (old.rest files index) (new.rest files index) buffer result
  pub other_rests : (files : Files) (i : ℕ) → i ≢ index → new.rest files i ≡ old.rest files i
  pub came : new.came ≡ old.came + brought result
  pub same_opened : new.opened ≡ old.opened
  pub narrows : Narrows old new
  pub same_outputs : new.outputs ≡ old.outputs
  pub same_journal : new.journal ≡ old.journal
  pub handed_kept : old.handed ≤ new.handed
  pub faults_kept : old.faults ≤ new.faults
  pub failed : result ≡ failed_read → Rose old.faults new.faults

-- A call that begins or ends an output: after Done the outputs are these, and the journal has this event more.
pub record Turns (done : Outputs) (event : Event) (result : MadeOut) (old new : DeskState) : Type 0 where
  pub same_names : new.names ≡ old.names
  pub outputs : new.outputs ≡ outputs_after result done old.outputs
  pub journal : new.journal ≡ grown old.journal (event_after result event)
  pub same_opened : new.opened ≡ old.opened
  pub same_rests : new.rest ≡ old.rest
  pub same_came : new.came ≡ old.came
  pub narrows : Narrows old new
  pub handed_kept : old.handed ≤ new.handed
  pub faults_kept : old.faults ≤ new.faults
  pub failed : result ≡ failed_make → Rose old.faults new.faults

abbrev pub Makes : Out → List ℕ → MadeOut → DeskState → DeskState → Type 0
Makes out name result old new = Turns (with_output out old.outputs) (Made out name) result old new

abbrev pub Drafts : Out → List ℕ → MadeOut → DeskState → DeskState → Type 0
Drafts out name result old new = Turns (with_draft out old.outputs) (Drafted out name) result old new

abbrev pub KeepsOld : Out → MadeOut → DeskState → DeskState → Type 0
KeepsOld out result old new = Turns (without_draft out old.outputs) (Kept out) result old new

abbrev pub Replaces : Out → MadeOut → DeskState → DeskState → Type 0
Replaces out result old new = Turns (without_draft out old.outputs) (Replaced out) result old new

pub record Takes (out : Out) (bytes : List ℕ) (result : Taken) (old new : DeskState) : Type 0 where
  pub some : TakesSome bytes result
  pub journal : new.journal ≡ grown old.journal (put_events out bytes result)
  pub same : OnlyPuts old new
  pub failed : result ≡ failed_put → Rose old.faults new.faults

-- what is told through a reference of this ghost name
abbrev pub lent : ℕ → DeskState → DeskState
lent name told = record told { names = name ∷ told.names }
