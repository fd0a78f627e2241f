-- `next_printed`: answer on one of its ways; said here, so that a wrong one fails at once.
use Rattle.cw_texts.proofs.Terms.{arith, common_steps}
use Rattle.cw_texts.proofs.definitions.Definitions.next_printed.Goals as goal

pub returns-then-not-definition : goal.returns-then-not-definition
returns-then-not-definition c = grind (arith, common_steps)
