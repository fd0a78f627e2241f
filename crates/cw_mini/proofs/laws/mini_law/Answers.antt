-- Each row of a small index is that of a row of the index.
use Rattle.cw_mini.proofs.RowsOf.{names-other-sections}
use Rattle.cw_mini.proofs.laws.mini_law.Goals as goal

pub returns : goal.returns
returns c = names-other-sections
