-- One block more.
use Rattle.cw_log.proofs.Terms.{◌≤◌, ap, arith, length, ◌∙◌, flat_map, take_all, block_bytes}
use Rattle.cw_log.proofs.WritingLaws.{bytes-more}
use Rattle.cw_log.proofs.writing.blocks_of.Goals as goal

pub loop-i-preserved : goal.loop-i-preserved
loop-i-preserved c = bytes-more c.args.names.now c.args.log.now.ended c.loop-i.i c.text_log.result.now c.loop-i.blocks
    c.append_block.new.text c.text_log.ensures c.loop-i.invariant c.in_ok-append_block.ensures.ok

pub returns : goal.returns
returns c =
    let all : length c.args.log.now.ended ≤ c.loop-i.i = omega arith in
    c.loop-i.invariant ∙ ap (flat_map (block_bytes c.args.names.now)) (take_all c.loop-i.i c.args.log.now.ended all)
