-- The answer of reading decides.
use Rattle.std.proofs.Common.{◌≡◌, Some, refl}
use Rattle.std.specs.FinMap.{get}
use Rattle.cw_input.specs.Merged.{NoWeb, NoChange, TooLong, merged}
use Rattle.cw_run.specs.laws.EmitsLaws.{runs-after, runs-known}
use Rattle.cw_run.specs.Terminal.{too_long_text}
use Rattle.cw_run.proofs.RefusalLaws.{line-refused}
use Rattle.cw_run.proofs.tool.run_tool.Goals as goal

pub returns-in-Err-NoWeb-clause-runs : goal.returns-in-Err-NoWeb-clause-runs
returns-in-Err-NoWeb-clause-runs g c = λ files is.
    let missing : merged (get files) c.args.asked.web.now (Some c.args.asked.change.now) ≡ NoWeb =
    (rw c.in-Err-NoWeb.field-0-is at (c.in-Err-NoWeb.ensures.loads files
    (c.refuse_word.ensures.runs.emits.narrows files is))) in
    runs-after {b = g.D.Desk.told c.load.new.desk} c.in-Err-NoWeb.ensures.same
    (rw missing c.refuse_word.ensures.runs)

pub returns-in-Err-NoChange-clause-runs : goal.returns-in-Err-NoChange-clause-runs
returns-in-Err-NoChange-clause-runs g c = λ files is.
    let missing : merged (get files) c.args.asked.web.now (Some c.args.asked.change.now) ≡ NoChange =
    (rw c.in-Err-NoChange.field-0-is at (c.in-Err-NoChange.ensures.loads files
    (c.refuse_word-in-Err-NoChange.ensures.runs.emits.narrows files is))) in
    runs-after {b = g.D.Desk.told c.load.new.desk} c.in-Err-NoChange.ensures.same
    (rw missing c.refuse_word-in-Err-NoChange.ensures.runs)

pub returns-in-Err-TooLong-clause-runs : goal.returns-in-Err-TooLong-clause-runs
returns-in-Err-TooLong-clause-runs g c = λ files is.
    let long : merged (get files) c.args.asked.web.now (Some c.args.asked.change.now) ≡ TooLong =
    (rw c.in-Err-TooLong.field-0-is at (c.in-Err-TooLong.ensures.loads files
    (c.refuse.ensures.runs.emits.narrows files is))) in
    runs-after {b = g.D.Desk.told c.load.new.desk} c.in-Err-TooLong.ensures.same
    (rw long (runs-known (line-refused too_long_text _ refl) c.refuse.ensures.runs))
