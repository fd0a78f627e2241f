-- A set has a category that the other lacks exactly where it meets the other's bits turned over.
use Rattle.cw_base.proofs.Terms.{arith, ◌∙◌}
use Rattle.cw_base.proofs.SetLaws.{leaves-is}
use Rattle.cw_base.proofs.category.CatSet.leaves.Goals as goal

pub returns : goal.returns
returns c = c.meets.ensures ∙ leaves-is c.args.self c.args.other (omega arith)
