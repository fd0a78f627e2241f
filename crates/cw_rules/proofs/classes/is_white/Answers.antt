-- The table of the code tells of each byte whether it is white.
use Rattle.std.proofs.Common.{false, arith}
use Rattle.cw_rules.proofs.ByteTables.{white-at}
use Rattle.cw_rules.proofs.classes.is_white.Goals as goal

pub returns : goal.returns
returns c = white-at c.args.byte false (omega (arith, c.ranges.byte.fits))
