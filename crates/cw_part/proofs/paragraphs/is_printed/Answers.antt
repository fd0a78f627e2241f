-- `is_printed`: answer on one of its ways; said here, so that a wrong one fails at once.
use Rattle.cw_part.proofs.Terms.{arith, common_steps}
use Rattle.cw_part.proofs.paragraphs.is_printed.Goals as goal

pub returns-else-always : goal.returns-else-always
returns-else-always c = grind (arith, common_steps)
