-- The productions before this line are read.
use Rattle.cw_logs.proofs.Terms.{length, map, production_of}
use Rattle.cw_logs.proofs.BlockSteps.{ItemsSoFar}
use Rattle.cw_logs.proofs.blocks.read_items.Given as goal

abbrev pub invariant-loop-item : goal.invariant-loop-item
invariant-loop-item l = ItemsSoFar l.text (map production_of l.items.items) l.cut.word.now l.cut.rest.now

abbrev pub decreases-loop-item : goal.decreases-loop-item
decreases-loop-item l = length l.cut.rest.now
