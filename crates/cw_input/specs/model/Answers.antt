-- The models beside `specs/Answers`.
use Rattle.std.specs.Prelude.{◌≡◌, ℕ, ◌+◌, ◌-◌, ◌*◌, ◌<◌, List, length, Option, Some, None, Result, Ok, Err, ⊤}
use Rattle.cw_base.specs.declared.limits.TheConstants.{INPUT_LIMIT}
use Rattle.cw_base.specs.Web.{WebState}
use Rattle.cw_input.specs.Lines.{FileLine, file_lines}
use Rattle.cw_input.specs.model.Fold.{MergeState, Onward}
use Rattle.cw_input.specs.Merged as outcome
use Rattle.cw_input.specs.model.State.{Moves, IsMet, IsPhase, ahead}
use Rattle.cw_input.specs.declared.error.LoadError.{LoadError}
use Rattle.cw_input.specs.declared.error.LoadError.TheVariants.{NoWeb, NoChange, TooLong, Fault, Memory}
use Rattle.cw_input.specs.declared.found.InputFile.{InputFile}
use Rattle.cw_input.specs.declared.merger.Merger.{Merger}
use Rattle.cw_input.specs.declared.merger.SourceFile.{SourceFile}
use Rattle.cw_input.specs.declared.phase.Cursor.{Cursor}
use Rattle.cw_input.specs.declared.phase.Phase.{Phase}
use Rattle.cw_input.specs.Answers.{Loads}

-- an error within the merging: too long, where the definition says so, or one of the two that it knows nothing of
abbrev pub Fails : Option MergeState → LoadError → Type 0
Fails given NoWeb = ⊥
Fails given NoChange = ⊥
Fails given TooLong = given ≡ None
Fails given Fault = ⊤
Fails given Memory = ⊤

-- the state afterwards is the given one
abbrev pub Gives : Option MergeState → MergeState → Result (Unit {0}) LoadError → Type 0
Gives given new (Ok u) = given ≡ Some new
Gives given new (Err error) = Fails given error

-- the same, or it is what the lines of an included file make of the state afterwards
abbrev pub Leads : Option MergeState → (List FileLine → MergeState → Option MergeState) → MergeState
    → Result (Option SourceFile) LoadError → Type 0
Leads given next new (Ok None) = given ≡ Some new
Leads given next new (Ok (Some source)) = given ≡ next (file_lines source.file source.bytes) new
Leads given next new (Err error) = Fails given error

-- the same, or it is what the rest of the change file makes of the state afterwards, from a phase on
abbrev pub Steps : Option MergeState → Onward → MergeState → Result (Option Phase) LoadError → Type 0
Steps given go new (Ok None) = given ≡ Some new
Steps given go new (Ok (Some phase)) = given ≡ go phase new
Steps given go new (Err error) = Fails given error

-- a line of the change file either lets a group wait or leads to a phase
abbrev pub Waits : List ℕ → Cursor → Merger → Result (Option Phase) LoadError → Type 0
Waits change rest new (Ok None) =
    IsMet change (length new.web.files) new.meets × (ahead change new.meets ≡ length change - rest.at)
Waits change rest new (Ok (Some phase)) = IsPhase rest.line phase
Waits change rest new (Err error) = ⊤

-- the room that is left, beside that for the lines of an included file
abbrev pub Leaves : ℕ → ℕ → ℕ → ℕ → ℕ → Merger → Merger → Result (Option SourceFile) LoadError → Type 0
Leaves text files text_left files_left left old new (Ok None) = Moves text files text_left files_left old new
Leaves text files text_left files_left left old new (Ok (Some source)) =
    Moves text files (text_left + 2 * length source.bytes) (files_left + length source.bytes) old new
    × (source.file < length new.web.files) × (0 < left)
Leaves text files text_left files_left left old new (Err error) = ⊤

-- an opened file was read: all of it, or it has too many bytes
abbrev pub Reads : List ℕ → ℕ → Result (List ℕ) LoadError → Type 0
Reads bytes room (Ok read) = bytes ≡ read
Reads bytes room (Err NoWeb) = ⊥
Reads bytes room (Err NoChange) = ⊥
Reads bytes room (Err TooLong) = room < length bytes
Reads bytes room (Err Fault) = ⊤
Reads bytes room (Err Memory) = ⊤

-- a file was looked for and, where it is there, read
abbrev pub Finds : Option InputFile → ℕ → Result (Option InputFile) LoadError → Type 0
Finds given room (Ok answer) = given ≡ answer
Finds given room (Err NoWeb) = ⊥
Finds given room (Err NoChange) = ⊥
Finds given room (Err TooLong) = (file : InputFile) × (given ≡ Some file) × (room < length file.bytes)
Finds given room (Err Fault) = ⊤
Finds given room (Err Memory) = ⊤

-- the same of a call that fills a web
abbrev pub LoadsInto : outcome.Merged → WebState → Result (Unit {0}) LoadError → Type 0
LoadsInto given web (Ok u) = given ≡ outcome.Whole web
LoadsInto given web (Err error) = Loads given (Err error)

-- the file of the web was looked for under both its names
abbrev pub FindsWeb : Option InputFile → Result InputFile LoadError → Type 0
FindsWeb given (Ok file) = given ≡ Some file
FindsWeb given (Err NoWeb) = given ≡ None
FindsWeb given (Err NoChange) = ⊥
FindsWeb given (Err TooLong) = (file : InputFile) × (given ≡ Some file) × (INPUT_LIMIT < length file.bytes)
FindsWeb given (Err Fault) = ⊤
FindsWeb given (Err Memory) = ⊤

-- all lines were merged, and the web is whole
abbrev pub Merges : outcome.Merged → WebState → Result (Unit {0}) LoadError → Type 0
Merges given web (Ok u) = given ≡ outcome.Whole web
Merges given web (Err NoWeb) = ⊥
Merges given web (Err NoChange) = ⊥
Merges given web (Err TooLong) = given ≡ outcome.TooLong
Merges given web (Err Fault) = ⊤
Merges given web (Err Memory) = ⊤
