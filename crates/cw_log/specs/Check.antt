-- What a run of `check` is: what it prints of the file of a log, and its status.
use Rattle.std.specs.Prelude.{ℕ, ◌++◌, Option, Some, None, List, length, codes, decimal, if◌then◌else◌, nat_le}
use Rattle.cw_base.specs.declared.exit.Exit.TheVariants.{Clean}
use Rattle.cw_base.specs.Text.{pieces_of}
use Rattle.cw_logs.specs.Judgement.{Judgement, log, no_log}
use Rattle.cw_logs.proofs.Deciding.{judgement}
use Rattle.cw_run.specs.Emits.{Run}
use Rattle.cw_run.specs.Saying.{says}
use Rattle.cw_run.specs.Tool.{refused}
use Rattle.cw_log.specs.Checking.{checked}
use Rattle.cw_log.specs.declared.checking.Checked.{Checked}
use Rattle.cw_log.specs.declared.checking.Checked.TheVariants.{Accepted, Rejected}
use Rattle.cw_log.specs.declared.file.TheConstants.{LOG_LIMIT}

-- ## What is printed

abbrev pub accepted_text : ℕ → ℕ → List ℕ
accepted_text texts count =
    codes "accepted: " ++ decimal texts ++ codes " texts, " ++ decimal count ++ codes " productions"

abbrev pub rejected_text : ℕ → ℕ → List ℕ
rejected_text text count =
    codes "rejected: text " ++ decimal text ++ codes " after " ++ decimal count ++ codes " productions"

abbrev pub no_log_text : ℕ → List ℕ
no_log_text line = codes "! Not a log (line " ++ decimal line ++ codes ")"

abbrev pub too_long_text : List ℕ
too_long_text = codes "! Log is longer than 67108864 bytes"

abbrev pub missing_text : List ℕ → List ℕ
missing_text word = codes "! Cannot open log " ++ word

-- ## The run

abbrev pub run_of : Checked → Run
run_of (Accepted texts count) = record { rest = says (accepted_text texts count); exit = Clean }
run_of (Rejected text count) = refused (rejected_text text count)

-- All lines of the file are judged before a block is checked.
abbrev pub judged : {lines : List (List ℕ)} → Judgement lines → Run
judged (log is) = run_of (checked is.blocks)
judged (no_log line fault) = refused (no_log_text line)

-- over a file of these bytes
abbrev pub check_bytes : List ℕ → Run
check_bytes file = if nat_le (length file) LOG_LIMIT then judged (judgement (pieces_of file)) else refused too_long_text

-- over the file of a word, where it is there
abbrev pub check_file : List ℕ → Option (List ℕ) → Run
check_file word None = refused (missing_text word)
check_file word (Some file) = check_bytes file
