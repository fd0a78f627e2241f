-- `add`: clause `ok` behind `add`; said here, so that a wrong one fails at once.
use Rattle.std.proofs.Common.{arith}
use Rattle.std.proofs.lemmas.Grind.{common_steps}
use Rattle.cw_secnames.proofs.referrers.Lists.add.Goals as goal

pub returns-in_ok-add-in-Used-clause-ok : goal.returns-in_ok-add-in-Used-clause-ok
returns-in_ok-add-in-Used-clause-ok c = grind (arith, common_steps)
