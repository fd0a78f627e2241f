-- What the tool that counts sections prints and writes.
use Rattle.std.specs.Prelude.{ℕ, List, [], ◌∷◌, ◌++◌, codes, decimal, length}
use Rattle.cw_base.specs.Web.{WebState, text_of}
use Rattle.cw_desk.specs.Meaning.{NamedFiles}
use Rattle.cw_phase1.specs.Book.{book}
use Rattle.cw_run.specs.Emits.{Run}
use Rattle.cw_run.specs.Tool.{tool_run}

abbrev pub count_usage : List ℕ
count_usage = codes "! Usage: cwcount web change|- out"

-- a line that tells how many sections a web has
abbrev pub number_of : WebState → List ℕ
number_of web = decimal (length (book web.lines).outline.sections) ++ 10 ∷ []

-- the lines of a web, and that line behind them
abbrev pub counted : WebState → List ℕ
counted web = text_of web.lines ++ number_of web

abbrev pub count_run : List (List ℕ) → NamedFiles → Run
count_run words named = tool_run count_usage counted words named
