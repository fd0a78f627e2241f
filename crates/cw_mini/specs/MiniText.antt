-- The file that is written of a web, and a run of the program.
use Rattle.std.specs.Prelude.{ℕ, List, codes}
use Rattle.cw_base.specs.Web.{WebState}
use Rattle.cw_desk.specs.Meaning.{NamedFiles}
use Rattle.cw_run.specs.Emits.{Run}
use Rattle.cw_run.specs.Tool.{tool_run}
use Rattle.cw_mini.specs.Left.{left_book}
use Rattle.cw_mini.specs.MiniFile.{book_lines}

-- All texts of the web are translated, and then the lines of all sections are written.
abbrev pub mini_file : WebState → List ℕ
mini_file web = book_lines (left_book web.lines)

abbrev pub usage : List ℕ
usage = codes "! Usage: cwmini web change|- out"

abbrev pub mini_run : List (List ℕ) → NamedFiles → Run
mini_run words named = tool_run usage mini_file words named
