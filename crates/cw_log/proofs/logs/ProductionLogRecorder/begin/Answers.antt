-- The lists of the line are among those of the store.
use Rattle.cw_log.proofs.RecordLaws.{roots-known}
use Rattle.cw_log.proofs.logs.ProductionLogRecorder.begin.Goals as goal

pub leaf_lines-requires : goal.leaf_lines-requires
leaf_lines-requires c = roots-known c.args.store.now.lists c.args.line.now c.requires.roots
