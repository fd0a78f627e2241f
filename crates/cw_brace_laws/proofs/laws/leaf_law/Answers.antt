-- The scrap of each token is braced.
use Rattle.cw_brace_laws.proofs.Leaves.{leaf-braced}
use Rattle.cw_brace_laws.proofs.laws.leaf_law.Goals as goal

pub returns : goal.returns
returns c = leaf-braced
