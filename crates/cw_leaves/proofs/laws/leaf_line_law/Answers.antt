-- What is seen of scraps, and their leaf lines, tell their log.
use Rattle.cw_leaves.proofs.{LineFacts.lines-have-log, LineFacts.same-lines-same-log, SightSteps.log-seen}
use Rattle.cw_leaves.proofs.laws.leaf_line_law.Goals as goal

pub returns-clause-sights : goal.returns-clause-sights
returns-clause-sights c = log-seen

pub returns-clause-lines : goal.returns-clause-lines
returns-clause-lines c = lines-have-log

pub returns-clause-same : goal.returns-clause-same
returns-clause-same c = same-lines-same-log
