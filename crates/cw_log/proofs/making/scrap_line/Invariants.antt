-- The leaf lines before this one are made.
use Rattle.cw_log.proofs.Terms.{take}
use Rattle.cw_log.proofs.MadeLines.{MadeSoFar}
use Rattle.cw_log.proofs.making.scrap_line.Given as goal

abbrev pub invariant-loop-leaf : goal.invariant-loop-leaf
invariant-loop-leaf l = MadeSoFar l.names l.store l.line (take l.leaf-index l.leaves)
