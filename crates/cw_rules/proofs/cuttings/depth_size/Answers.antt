-- `depth_size`: clause `value` on one of its ways; said here, so that a wrong one fails at once.
use Rattle.std.proofs.Common.{arith}
use Rattle.std.proofs.lemmas.Grind.{common_steps}
use Rattle.cw_rules.proofs.cuttings.depth_size.Goals as goal

pub returns-else-begins-clause-value : goal.returns-else-begins-clause-value
returns-else-begins-clause-value c = grind (arith, common_steps)
