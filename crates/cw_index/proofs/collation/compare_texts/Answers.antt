-- `compare_texts`: answer; said here, so that a wrong one fails at once.
use Rattle.cw_index.proofs.Terms.{arith, common_steps}
use Rattle.cw_index.proofs.collation.compare_texts.Goals as goal

pub returns : goal.returns
returns c = grind (arith, common_steps)
