-- What a program is asked for, and what it has done.
use Rattle.std.specs.Prelude.{◌≡◌, ◌⊎◌, ℕ, List, [], drop}
use Rattle.std.specs.FinMap.{get}
use Rattle.cw_base.specs.declared.event.Event.{Event}
use Rattle.cw_base.specs.declared.exit.Exit.{Exit}
use Rattle.cw_base.specs.declared.exit.Exit.TheVariants.{Clean, Errors, Fault, Memory}
use Rattle.cw_desk.specs.Answer.{Agree, Answer, NoneAgree}
use Rattle.cw_desk.specs.Journal.{grown, GrownByPart}
use Rattle.cw_desk.specs.Meaning.{Files, NamedFiles}
use Rattle.cw_run.specs.Emits.{Run}

-- the words of a command line: all behind the program's own name
abbrev pub words_of : List (List ℕ) → List (List ℕ)
words_of line = drop 1 line

-- What a run has done: it emitted exactly the events and answers exactly the status; or a first part of the events,
-- after a fault of the desk or for want of memory.
abbrev pub Outcome : Run → List Event → List Event → Exit → Type 0
Outcome run before now Clean = (now ≡ grown before run.rest) × (run.exit ≡ Clean)
Outcome run before now Errors = (now ≡ grown before run.rest) × (run.exit ≡ Errors)
Outcome run before now Fault = GrownByPart before now run.rest
Outcome run before now Memory = GrownByPart before now run.rest

-- What a run over real files has done, where the system gave these answers: what it does over some files that would
-- have given them, or, after a fault or for want of memory, a first part of it; or no files would have given them.
abbrev pub OverSome : (NamedFiles → Run) → List Answer → List Event → Exit → Type 0
OverSome run answers journal exit =
    ((files : Files) × Agree answers files × Outcome (run (get files)) [] journal exit) ⊎ NoneAgree answers
