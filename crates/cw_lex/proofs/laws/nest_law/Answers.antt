-- Nested answers are those of one nest, in which all stands where it may, and so are the answers behind a head.
use Rattle.cw_lex.proofs.{Nests.nests-nested, Nests.nest-well, HeadNests.head-leaves}
use Rattle.cw_lex.proofs.laws.nest_law.Goals as goal

pub returns-clause-one : goal.returns-clause-one
returns-clause-one c = nests-nested

pub returns-clause-well : goal.returns-clause-well
returns-clause-well c = nest-well

pub returns-clause-heads : goal.returns-clause-heads
returns-clause-heads c = head-leaves
