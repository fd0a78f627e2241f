-- After Memory a beginning of the lines is appended.
use Rattle.cw_logs.proofs.Terms.{IsErr, rules, arith, spelled, line_text}
use Rattle.cw_logs.proofs.AppendLaws.{line-refused}
use Rattle.cw_logs.proofs.writing.append_leaves.Goals as goal

pub returns-in_err-append_leaf : goal.returns-in_err-append_leaf
returns-in_err-append_leaf c =
    let err : IsErr c.from_residual.result = search rules in
    line-refused
    (spelled _) line_text _ _ c.leaf-item.result _ _ _ _ c.loop-leaf-test.true err c.loop-leaf.invariant (grind arith)
