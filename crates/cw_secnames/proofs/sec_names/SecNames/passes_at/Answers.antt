-- The name in the list is that in memory.
use Rattle.std.proofs.Common.{arith}
use Rattle.cw_secnames.proofs.{Finding.length-named, Nearest.passes-there, Nearest.passes-not}
use Rattle.cw_secnames.proofs.sec_names.SecNames.passes_at.Goals as goal

pub returns-then-index-len : goal.returns-then-index-len
returns-then-index-len c = grind (arith, passes-not, length-named)

pub returns : goal.returns
returns c = grind (arith, passes-there)
