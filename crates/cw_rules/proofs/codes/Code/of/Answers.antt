-- `of`: answer on one of its ways; said here, so that a wrong one fails at once.
use Rattle.std.proofs.Common.{arith}
use Rattle.std.proofs.lemmas.Grind.{common_steps}
use Rattle.cw_rules.proofs.codes.Code.of.Goals as goal

pub returns-else-has : goal.returns-else-has
returns-else-has c = grind (arith, common_steps)
