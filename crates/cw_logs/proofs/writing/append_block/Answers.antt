-- After Memory a beginning of the block is appended.
use Rattle.cw_logs.proofs.Terms.{◌≡◌, ◌++◌, IsErr, rules, spelled, HasGrown, block_of}
use Rattle.cw_logs.proofs.AppendLaws.{head_of, leaves_of, items_of, head-refused, leaves-refused, items-refused}
use Rattle.cw_logs.proofs.AppendLaws.{same-count}
use Rattle.cw_logs.proofs.writing.append_block.Goals as goal

pub returns-in_err-append_head : goal.returns-in_err-append_head
returns-in_err-append_head c =
    let err : IsErr c.from_residual.result = search rules in
    let count = same-count (spelled c.args.names.now) _ c.args.log.now.leaves c.as_slice-leaves.ensures in
    let some : HasGrown (head_of (block_of c.args.names.now c.args.log.now))
    c.args.text.now c.append_head.new.text = rw (← count) c.in_err-append_head.ensures.err in
    head-refused (block_of _ c.args.log.now) c.args.text.now c.append_head.new.text c.from_residual.result err some

pub returns-in_err-append_leaves : goal.returns-in_err-append_leaves
returns-in_err-append_leaves c =
    let err : IsErr c.from_residual-in_err-append_leaves.result = search rules in
    let count = same-count (spelled c.args.names.now) c.as_slice-leaves.result.now _ c.as_slice-leaves.ensures in
    let head : c.append_head.new.text ≡ c.args.text.now
    ++ head_of (block_of c.args.names.now c.args.log.now) = rw (← count) c.in_ok-append_head.ensures.ok in
    let some : HasGrown (leaves_of (block_of c.args.names.now c.args.log.now)) c.append_head.new.text
    c.append_leaves.new.text = rw (← c.as_slice-leaves.ensures) c.in_err-append_leaves.ensures.err in
    leaves-refused (block_of c.args.names.now c.args.log.now) _ _ _ _ err head some

pub returns-in_err-append_items : goal.returns-in_err-append_items
returns-in_err-append_items c =
    let err : IsErr c.from_residual-in_err-append_items.result = search rules in
    let count = same-count (spelled c.args.names.now) _ _ c.as_slice-leaves.ensures in
    let head : c.append_head.new.text ≡ c.args.text.now
    ++ head_of (block_of c.args.names.now c.args.log.now) = rw (← count) c.in_ok-append_head.ensures.ok in
    let leaves : c.append_leaves.new.text ≡ c.append_head.new.text ++ leaves_of
    (block_of c.args.names.now c.args.log.now) = rw (← c.as_slice-leaves.ensures) c.in_ok-append_leaves.ensures.ok in
    let some : HasGrown (items_of (block_of c.args.names.now c.args.log.now))
    c.append_leaves.new.text c.append_items.new.text = rw (← c.as_slice.ensures) c.in_err-append_items.ensures.err in
    items-refused (block_of c.args.names.now _)
    _ _ c.append_leaves.new.text c.append_items.new.text c.from_residual-in_err-append_items.result err head leaves some
