-- What was found of a file is what its run is.
use Rattle.cw_log.proofs.Terms.{◌≡◌, ◌≢◌, ℕ, ◌≤◌, ◌<◌, List, length, true, false, cond, Result, sym, ap, ◌∙◌, arith}
use Rattle.cw_log.proofs.Terms.{nat_le, IfOk, nat_tests, pieces_of, PutError, IsFaultAt, IsLog, judgement, check_bytes}
use Rattle.cw_log.proofs.Terms.{judged, no_log_text, run_of, too_long_text, checked, IsCheckedAs, Accepted, Rejected}
use Rattle.cw_log.proofs.Terms.{LOG_LIMIT}
use Rattle.std.proofs.lemmas.Result.{IfOk-weaker}
use Rattle.cw_base.specs.{declared.exit.Exit.Exit, declared.exit.Exit.TheVariants.Fault}
use Rattle.cw_desk.specs.State.{DeskState}
use Rattle.cw_logs.specs.Judgement.{Judgement, log, no_log}
use Rattle.cw_logs.proofs.Faults.{fault-no-log, fault-same}
use Rattle.cw_run.specs.Emits.{Run, Runs}
use Rattle.cw_run.specs.Tool.{refused}
use Rattle.cw_log.specs.declared.checking.Checked.{Checked}

pub judged-log : (lines : List (List ℕ)) (j : Judgement lines) (c : Checked) → IsLog lines → IsCheckedAs lines c
    → run_of c ≡ judged j
judged-log lines (log own) c is told = ap run_of (told own)
judged-log lines (no_log line fault) c is told = absurd (fault-no-log lines line fault is)

pub judged-fault : (lines : List (List ℕ)) (j : Judgement lines) (line : ℕ) → IsFaultAt lines line
    → refused (no_log_text line) ≡ judged j
judged-fault lines (log own) line fault = absurd (fault-no-log lines line fault own)
judged-fault lines (no_log other found) line fault =
    ap (λ n. refused (no_log_text n)) (fault-same lines line other fault found)

-- ## The length of the file

at-most : (m n : ℕ) → m ≤ n → nat_le m n ≡ true
at-most m n h = grind (arith, nat_tests)

more-than : (m n : ℕ) → n < m → nat_le m n ≡ false
more-than m n h = grind (arith, nat_tests)

pub check-short : (file : List ℕ) → length file ≤ LOG_LIMIT → judged (judgement (pieces_of file)) ≡ check_bytes file
check-short file short = ap (λ t. cond t (judged (judgement (pieces_of file))) (refused too_long_text))
    (sym (at-most (length file) LOG_LIMIT short))

pub check-long : (file : List ℕ) → LOG_LIMIT < length file → refused too_long_text ≡ check_bytes file
check-long file long = ap (λ t. cond t (judged (judgement (pieces_of file))) (refused too_long_text))
    (sym (more-than (length file) LOG_LIMIT long))

-- ## Its status

exit-real : (c : Checked) → (run_of c).exit ≢ Fault
exit-real (Accepted texts count) e = cc
exit-real (Rejected text count) e = cc

pub judged-real : {lines : List (List ℕ)} (j : Judgement lines) → (judged j).exit ≢ Fault
judged-real (log is) e = exit-real (checked is.blocks) e
judged-real (no_log line fault) e = cc

pub runs-real : (run : Run) (a b : DeskState) (result : Result Exit PutError) → run.exit ≢ Fault → Runs run a b result
    → IfOk result (λ exit. exit ≢ Fault)
runs-real run a b result real runs =
    IfOk-weaker result (λ e. e ≡ run.exit) (λ e. e ≢ Fault) (λ e same is. real (sym same ∙ is)) runs.exit
