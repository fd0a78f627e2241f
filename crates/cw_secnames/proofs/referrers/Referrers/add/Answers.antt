-- `add`: clause `ok` behind `self`; said here, so that a wrong one fails at once.
use Rattle.std.proofs.Common.{arith}
use Rattle.std.proofs.lemmas.Grind.{common_steps}
use Rattle.cw_secnames.proofs.References.{few}
use Rattle.cw_secnames.proofs.referrers.Referrers.add.Goals as goal

pub returns-in_ok-self-in-One-clause-ok : goal.returns-in_ok-self-in-One-clause-ok
returns-in_ok-self-in-One-clause-ok c = grind (arith, common_steps, few)
