-- `without_memory`: answer on one of its ways; said here, so that a wrong one fails at once.
use Rattle.std.proofs.Common.{arith}
use Rattle.std.proofs.lemmas.Grind.{common_steps}
use Rattle.cw_secnames.proofs.References.{few}
use Rattle.cw_secnames.proofs.referrers.NameReferrers.without_memory.Goals as goal

pub returns-in-Used-how-2 : goal.returns-in-Used-how-2
returns-in-Used-how-2 c = grind (arith, common_steps, few)
