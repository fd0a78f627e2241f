-- The tree to which the scraps are joined is braced.
use Rattle.cw_brace_laws.proofs.Terms.{rows-braced, productions-sound}
use Rattle.cw_brace_laws.proofs.Wholes.{reduction-braced}
use Rattle.cw_brace_laws.proofs.laws.reduction_law.Goals as goal

pub returns : goal.returns
returns c = reduction-braced productions-sound rows-braced
