-- Each program leaves the book that the others leave.
use Rattle.cw_laws.proofs.LeftBooks.{each-leaves, left-woven}
use Rattle.cw_laws.proofs.left.left_law.Goals as goal

pub returns-clause-woven : goal.returns-clause-woven
returns-clause-woven c = left-woven c.texts_law.ensures.occurrences

pub returns-clause-each : goal.returns-clause-each
returns-clause-each c = each-leaves
