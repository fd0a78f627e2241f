-- What `check` finds of the log that is written of a web.
use Rattle.std.specs.Prelude.{◌≡◌, ◌<◌, ◌≤◌, ℕ, List, [], ◌∷◌, Some, codes, length}
use Rattle.cw_base.specs.Web.{MergedLine, text_of}
use Rattle.cw_base.specs.declared.limits.TheConstants.{TEXT_LIMIT}
use Rattle.cw_desk.specs.Meaning.{NamedFiles}
use Rattle.cw_log.specs.Check.{check_file}
use Rattle.cw_log.specs.Command.{log_run}
use Rattle.cw_log.specs.LogOfWeb.{log_blocks, log_file}
use Rattle.cw_log.specs.declared.file.TheConstants.{LOG_LIMIT}
use Rattle.cw_log_laws.specs.AcceptedLogs.{accepted_run}

-- The log of every web is accepted, if it isn't too long, whatever word names its file.
abbrev pub WrittenLogsAreAccepted : Type 0
WrittenLogsAreAccepted = (lines : List MergedLine) (word : List ℕ) → length (text_of lines) ≤ TEXT_LIMIT
    → length (log_file lines) ≤ LOG_LIMIT → check_file word (Some (log_file lines)) ≡ accepted_run (log_blocks lines)

-- The same of the command line: `check`, and a word that names a file with this log.
abbrev pub CommandsAccept : Type 0
CommandsAccept = (lines : List MergedLine) (word : List ℕ) (named : NamedFiles) → length (text_of lines) ≤ TEXT_LIMIT
    → length (log_file lines) ≤ LOG_LIMIT → 0 < length word → named word ≡ Some (log_file lines)
    → log_run (codes "check" ∷ word ∷ []) named ≡ accepted_run (log_blocks lines)
