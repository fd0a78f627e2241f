-- `add_link`: answer behind `push`; said here, so that a wrong one fails at once.
use Rattle.std.proofs.Common.{arith}
use Rattle.std.proofs.lemmas.Grind.{common_steps}
use Rattle.cw_secnames.proofs.tables.add_link.Goals as goal

pub returns-in_ok-push : goal.returns-in_ok-push
returns-in_ok-push c = grind (arith, common_steps)
