-- A line on the terminal, with its end.
use Rattle.std.proofs.Common.{◌≡◌, ℕ, List, [], ◌∷◌, ◌++◌, ap}
use Rattle.cw_base.specs.declared.event.Event.{Event}
use Rattle.cw_base.specs.declared.event.Out.TheVariants.{Term}
use Rattle.cw_base.specs.declared.exit.Exit.TheVariants.{Errors}
use Rattle.cw_desk.specs.Journal.{byte_events}
use Rattle.cw_run.specs.Emits.{Run}
use Rattle.cw_run.specs.Saying.{says}
use Rattle.cw_run.specs.Tool.{refused}

line-says : (text line : List ℕ) → line ≡ text ++ 10 ∷ [] → byte_events Term line ≡ says text
unfolding says
line-says text line e = ap (byte_events Term) e

-- a run that prints a line with its end
pub line-refused : (text line : List ℕ) → line ≡ text ++ 10 ∷ []
    → (let run : Run = record { rest = byte_events Term line; exit = Errors } in run) ≡ refused text
line-refused text line e = ap (λ (events : List Event). let run : Run = record { rest = events; exit = Errors } in run)
    (line-says text line e)
