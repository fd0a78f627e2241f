-- The text stands behind the others.
use Rattle.cw_log.proofs.Terms.{rules}
use Rattle.cw_log.proofs.RecordLaws.{text-ended}
use Rattle.cw_log.proofs.logs.ProductionLogRecorder.end.Goals as goal

pub returns-clause-ends : goal.returns-clause-ends
returns-clause-ends c = text-ended c.args.self.now.items c.replace-items.new.dest.items c.args.self.now.leaves
    c.replace-leaves.new.dest c.args.self.now.ended c.push.new.self.items (search rules) (search rules) (search rules)
