-- The first line is a head, and behind it come its leaf lines and productions.
use Rattle.cw_logs.proofs.Terms.{rules, HasItems, HasLeaves, HasHead, NoHead}
use Rattle.cw_logs.proofs.BlockSteps.{behind-head, head-read, head-there, whole-block}
use Rattle.cw_logs.proofs.blocks.read_block.Goals as goal

pub unreachable-requires : goal.unreachable-requires
unreachable-requires c =
    let lack : NoHead c.cut_line-head.result.word.now = search rules in
    let head = head-there _ _ (head-read c.args.log.now
    c.cut_line-head.result.word.now c.cut_line-head.result.rest.now c.requires.log c.cut_line-head.ensures) in
    lack head.0 head.1 head.2

pub read_leaves-requires : goal.read_leaves-requires
read_leaves-requires c =
    let head : HasHead c.cut_line-head.result.word.now c.in-Some.count = search rules in
    behind-head _ _ c.in-Some.count head.few head.is (head-read _ _ _ c.requires.log c.cut_line-head.ensures)

pub returns-clause-ok : goal.returns-clause-ok
returns-clause-ok c =
    let head : HasHead c.cut_line-head.result.word.now c.in-Some.count = search rules in
    let leaves : HasLeaves c.args.names.now
    c.read_leaves.new.names c.in-Some.count c.cut_line-head.result.rest.now c.in_ok-leaves.leaves = search rules in
    let items : HasItems c.in_ok-leaves.leaves.rest.now c.in_ok-items.items = search rules in
    whole-block _ _ _ _ c.cut_line-head.result.rest.now _ _ _ c.cut_line-head.ensures head.few head.is leaves items
