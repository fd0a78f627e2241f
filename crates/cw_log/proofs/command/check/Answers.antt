-- What is found of the file decides.
use Rattle.cw_log.proofs.Terms.{◌≡◌, ◌≤◌, ◌<◌, ℕ, List, Some, None, length, refl, sym, ap, ◌∙◌, subst, get, runs-after}
use Rattle.cw_log.proofs.Terms.{runs-known, line-refused, check_file, too_long_text, LOG_LIMIT}
use Rattle.cw_log.specs.model.LogFile.{IsFileOf, IsShort}
use Rattle.cw_log.proofs.RunLaws.{check-long}
use Rattle.cw_log.proofs.command.check.Goals as goal

pub check_whole-requires : goal.check_whole-requires
check_whole-requires g c =
    let short : length c.in-Whole.bytes ≤ LOG_LIMIT = subst IsShort c.in-Whole.is c.in_ok-read_log.ensures.short in
    subst (λ (bytes : List ℕ). length bytes ≤ LOG_LIMIT) (sym c.as_slice.ensures) short

pub returns-in-Missing-clause-runs : goal.returns-in-Missing-clause-runs
returns-in-Missing-clause-runs g c = λ files is.
    let word = c.args.word.now in
    let missing : get files word ≡ None = subst (IsFileOf (get files word)) c.in-Missing.is
    (c.in_ok-read_log.ensures.finds files (c.refuse_word.ensures.runs.emits.narrows files is)) in
    runs-after {b = g.D.Desk.told c.read_log.new.desk} c.in_ok-read_log.ensures.same
    (runs-known (ap (check_file word) (sym missing)) c.refuse_word.ensures.runs)

pub returns-in-TooLong-clause-runs : goal.returns-in-TooLong-clause-runs
returns-in-TooLong-clause-runs g c = λ files is.
    let word = c.args.word.now in
    let found : (bytes : List ℕ) × (get files word ≡ Some bytes) × (LOG_LIMIT < length bytes) =
    subst (IsFileOf (get files word)) c.in-TooLong.is
    (c.in_ok-read_log.ensures.finds files (c.refuse.ensures.runs.emits.narrows files is)) in
    runs-after {b = g.D.Desk.told c.read_log.new.desk} c.in_ok-read_log.ensures.same (runs-known (line-refused
    too_long_text _ refl ∙ (check-long found.0 found.2 ∙ ap (check_file word) (sym found.1))) c.refuse.ensures.runs)
