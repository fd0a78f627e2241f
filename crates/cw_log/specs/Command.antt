-- What the words of a command line ask for, and what a run does.
use Rattle.std.specs.Prelude.{ℕ, ◌<◌, List, [], ◌∷◌, Option, Some, None, bytes_eq, codes, if◌then◌else◌, length}
use Rattle.std.specs.Prelude.{option_map}
use Rattle.cw_desk.specs.Meaning.{NamedFiles}
use Rattle.cw_input.specs.Merged.{merged}
use Rattle.cw_run.specs.Emits.{Run}
use Rattle.cw_run.specs.Asked.{Asked, asked_for, asked_of}
use Rattle.cw_run.specs.Tool.{refused, tool_web}
use Rattle.cw_log.specs.Check.{check_file}
use Rattle.cw_log.specs.LogOfWeb.{log_file}
use Rattle.cw_log.specs.declared.program.Request.{Request as WordRequest}
use Rattle.cw_log.specs.declared.program.Request.TheVariants as requests

abbrev pub usage_text : List ℕ
usage_text = codes "! Usage: cwlog write web change|- out, or cwlog check log"

-- The log of a web is written, or that in a file is checked.
pub data Request : Type 0 where
  Write : Asked → Request
  Check : List ℕ → Request

-- what contracts see of it
abbrev pub request_of : WordRequest → Request
request_of (requests.Write asked) = Write (asked_of asked)
request_of (requests.Check word) = Check word.now

-- the web is named by some bytes
abbrev pub IsNamed : WordRequest → Type 0
IsNamed (requests.Write asked) = 0 < length asked.web.now
IsNamed (requests.Check word) = Unit {0}

abbrev pub to_write : List (List ℕ) → Option Request
to_write (web ∷ change ∷ out ∷ []) = option_map Write (asked_for web change out)
to_write words = None

-- A log is named by a word that isn't empty.
abbrev pub to_check : List (List ℕ) → Option Request
to_check ((byte ∷ bytes) ∷ []) = Some (Check (byte ∷ bytes))
to_check words = None

abbrev pub request : List (List ℕ) → Option Request
request [] = None
request (verb ∷ words) =
    if bytes_eq verb (codes "write") then to_write words
    else if bytes_eq verb (codes "check") then to_check words
    else None

abbrev pub run_for : Option Request → NamedFiles → Run
run_for None named = refused usage_text
run_for (Some (Write a)) named = tool_web (λ web. log_file web.lines) a (merged named a.web (Some a.change))
run_for (Some (Check word)) named = check_file word (named word)

-- over files that are there by their names
abbrev pub log_run : List (List ℕ) → NamedFiles → Run
log_run words named = run_for (request words) named
