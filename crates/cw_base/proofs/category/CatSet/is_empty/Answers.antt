-- A set holds some category exactly where it meets the set of all categories.
use Rattle.cw_base.proofs.Terms.{ap, not, ◌∙◌}
use Rattle.cw_base.proofs.SetLaws.{some-is}
use Rattle.cw_base.proofs.category.CatSet.is_empty.Goals as goal

pub returns : goal.returns
returns c = ap not (c.meets.ensures ∙ some-is c.args.self)
