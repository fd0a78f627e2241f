-- What a tool prints and writes for the words of a command line, over files that are there by their names, and the
-- status of the run.
use Rattle.std.specs.Prelude.{ℕ, List, [], ◌∷◌, Option, Some, None}
use Rattle.cw_base.specs.Web.{WebState}
use Rattle.cw_base.specs.declared.event.Event.TheVariants.{Made}
use Rattle.cw_base.specs.declared.event.Out.TheVariants.{Tex}
use Rattle.cw_base.specs.declared.exit.Exit.TheVariants.{Clean, Errors}
use Rattle.cw_desk.specs.Journal.{byte_events}
use Rattle.cw_desk.specs.Meaning.{NamedFiles}
use Rattle.cw_input.specs.Merged.{Merged, NoWeb, NoChange, TooLong, Whole, merged}
use Rattle.cw_input.specs.Overwriting.{first_overwriting}
use Rattle.cw_run.specs.Emits.{Run}
use Rattle.cw_run.specs.Saying.{says}
use Rattle.cw_run.specs.Terminal.{no_change_text, no_web_text, overwrite_text, too_long_text}
use Rattle.cw_run.specs.Asked.{Asked, asked}

-- One line is printed, and no file is made. The status is that of errors.
abbrev pub refused : List ℕ → Run
refused message = record { rest = says message; exit = Errors }

-- The file is made, and its bytes are written, whose lines are not cut. No note is printed, and none changes the
-- status.
abbrev pub made : List ℕ → List ℕ → Run
made name bytes = record { rest = Made Tex name ∷ byte_events Tex bytes; exit = Clean }

-- It is made if it would overwrite no input; else no file is made.
abbrev pub made_unless : Option (List ℕ) → List ℕ → List ℕ → Run
made_unless (Some overwritten) name bytes = refused (overwrite_text overwritten)
made_unless None name bytes = made name bytes

-- The web is read as it is to be woven; the file of a web is made by `text`.
abbrev pub tool_web : (WebState → List ℕ) → Asked → Merged → Run
tool_web text a NoWeb = refused (no_web_text a.web)
tool_web text a NoChange = refused (no_change_text a.change)
tool_web text a TooLong = refused too_long_text
tool_web text a (Whole web) = made_unless (first_overwriting web.files (a.out ∷ [])) a.out (text web)

abbrev pub tool_asked : List ℕ → (WebState → List ℕ) → Option Asked → NamedFiles → Run
tool_asked usage text None named = refused usage
tool_asked usage text (Some a) named = tool_web text a (merged named a.web (Some a.change))

abbrev pub tool_run : List ℕ → (WebState → List ℕ) → List (List ℕ) → NamedFiles → Run
tool_run usage text words named = tool_asked usage text (asked words) named
