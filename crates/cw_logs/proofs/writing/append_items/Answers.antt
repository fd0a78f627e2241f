-- After Memory a beginning of the lines is appended.
use Rattle.cw_logs.proofs.Terms.{IsErr, rules}
use Rattle.cw_logs.proofs.AppendLaws.{line-refused}
use Rattle.cw_logs.proofs.writing.append_items.Goals as goal

pub returns-in_err-append_item : goal.returns-in_err-append_item
returns-in_err-append_item c =
    let err : IsErr c.from_residual.result = search rules in
    line-refused
    _ _ _ _ _ _ c.loop-item.text _ _ c.loop-item-test.true err c.loop-item.invariant c.in_err-append_item.ensures.err
