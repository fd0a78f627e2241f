-- A log is told by its blocks, and another file by its line.
use Rattle.cw_log.proofs.Terms.{pieces_of, judgement, runs-known}
use Rattle.cw_log.proofs.RunLaws.{judged-fault, judged-log}
use Rattle.cw_log.proofs.command.check_whole.Goals as goal

pub returns-in_ok-checked-in-Ok-clause-runs : goal.returns-in_ok-checked-in-Ok-clause-runs
returns-in_ok-checked-in-Ok-clause-runs g c = runs-known (judged-log (pieces_of c.args.file.now) (judgement (pieces_of
    c.args.file.now)) c.in_ok-checked-in-Ok.checked c.in-Ok.ensures c.in_ok-checked-in-Ok.ensures) c.say_checked.ensures

pub returns-in-Err-clause-runs : goal.returns-in-Err-clause-runs
returns-in-Err-clause-runs g c = runs-known (judged-fault (pieces_of c.args.file.now)
    (judgement (pieces_of c.args.file.now)) c.in-Err.fault.line c.in-Err.ensures) c.say_fault.ensures
