-- No category has the name where none of those looked at has it.
use Rattle.cw_logs.proofs.Terms.{arith, get_or_default, End, all_cats}
use Rattle.cw_logs.proofs.CatNames.{no-cat, one-more-cat}
use Rattle.cw_logs.proofs.categories.cat_of_all.Goals as goal

pub loop-cat-preserved : goal.loop-cat-preserved
loop-cat-preserved c = one-more-cat _ c.loop-cat.cat-index _ c.is_named.result c.loop-cat.invariant
    c.is_named.ensures c.if-is_named.false (get_or_default all_cats c.loop-cat.cat-index End _ c.loop-cat-test.true)

pub returns : goal.returns
returns c = λ cat real. no-cat _ c.loop-cat.cat-index c.loop-cat.invariant (omega (arith, c.loop-cat-test.false)) cat
