-- Two sets share a category exactly where they share one of the bits that stand for categories.
use Rattle.cw_base.proofs.SetLaws.{meets-is}
use Rattle.cw_base.proofs.category.CatSet.meets.Goals as goal

pub returns : goal.returns
returns c = meets-is c.args.self c.args.other
