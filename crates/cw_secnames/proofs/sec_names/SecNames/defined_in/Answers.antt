-- What refers to each kept name ascends.
use Rattle.std.proofs.Common.{arith}
use Rattle.cw_secnames.proofs.{Finding.length-named, References.ascending-at, References.ascending-in}
use Rattle.cw_secnames.proofs.sec_names.SecNames.defined_in.Goals as goal

pub returns-clause-ascending : goal.returns-clause-ascending
returns-clause-ascending c = grind (arith, ascending-in, ascending-at, length-named)
