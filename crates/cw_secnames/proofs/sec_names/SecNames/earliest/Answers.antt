-- From the first position on, the earliest name that passes is the first of all names that pass.
use Rattle.std.proofs.Common.{arith}
use Rattle.cw_secnames.proofs.Nearest.{from-first}
use Rattle.cw_secnames.proofs.sec_names.SecNames.earliest.Goals as goal

pub returns-clause-value : goal.returns-clause-value
returns-clause-value c = grind (arith, from-first)
