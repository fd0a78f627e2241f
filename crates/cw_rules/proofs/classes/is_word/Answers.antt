-- The table of the code tells of each byte whether an identifier may go on with it.
use Rattle.std.proofs.Common.{false, arith}
use Rattle.cw_rules.proofs.ByteTables.{word-at}
use Rattle.cw_rules.proofs.classes.is_word.Goals as goal

pub returns : goal.returns
returns c = word-at c.args.byte false (omega (arith, c.ranges.byte.fits))
