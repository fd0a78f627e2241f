-- What is told says the scraps and productions.
use Rattle.cw_log.proofs.LineLaws.{lines-say-scraps, items-say-productions}
use Rattle.cw_log.proofs.laws.line_law.Goals as goal

pub returns-clause-lines : goal.returns-clause-lines
returns-clause-lines c = lines-say-scraps

pub returns-clause-items : goal.returns-clause-items
returns-clause-items c = items-say-productions
