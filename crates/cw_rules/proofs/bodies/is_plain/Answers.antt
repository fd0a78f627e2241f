-- The table of the code tells of each byte whether no body has a rule for it.
use Rattle.std.proofs.Common.{false, arith}
use Rattle.cw_rules.proofs.ByteTables.{plain-at}
use Rattle.cw_rules.proofs.bodies.is_plain.Goals as goal

pub returns : goal.returns
returns c = plain-at c.args.byte false (omega (arith, c.ranges.byte.fits))
