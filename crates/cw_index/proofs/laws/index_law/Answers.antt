-- The index is complete, and says nothing else.
use Rattle.cw_index.proofs.{Completeness.index-complete, EachRow.rows-of-names}
use Rattle.cw_index.proofs.laws.index_law.Goals as goal

pub returns : goal.returns
returns c = record { complete = index-complete; rows = rows-of-names }
