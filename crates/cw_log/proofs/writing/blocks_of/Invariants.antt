-- The blocks of the logs before this one are appended.
use Rattle.cw_log.proofs.Terms.{◌≡◌, take, flat_map, block_bytes}
use Rattle.cw_log.proofs.writing.blocks_of.Given as goal

abbrev pub invariant-loop-i : goal.invariant-loop-i
invariant-loop-i l = l.blocks ≡ flat_map (block_bytes l.names) (take l.i l.log.ended)
