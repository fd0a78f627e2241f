-- `effect_in_c`: answer in the last case; said here, so that a wrong one fails at once.
use Rattle.std.proofs.Common.{arith}
use Rattle.std.proofs.lemmas.Grind.{common_steps}
use Rattle.cw_rules.proofs.codes.Code.effect_in_c.Goals as goal

pub returns-in_default : goal.returns-in_default
returns-in_default c = grind (arith, common_steps)
