-- Whether a name begins a C part is told by the bytes behind the two of its code.
use Rattle.std.proofs.Common.{arith}
use Rattle.cw_rules.proofs.Cuts.{drop-two}
use Rattle.cw_rules.proofs.cuttings.is_head.Goals as goal

pub returns : goal.returns
returns c = grind (arith, drop-two)
