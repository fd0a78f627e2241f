-- A section goes before the first that isn't less, or is joined to the same section where that stands there.
use Rattle.cw_names.proofs.Terms.{arith, on_ok_weaker, nat_tests}
use Rattle.cw_names.proofs.Mentions.{any-default, section-inserted, section-joined}
use Rattle.cw_names.proofs.xrefs.add.Goals.{else-place-len-via-else-place-len}
use Rattle.cw_names.proofs.xrefs.add.Goals as goal

pub returns-then-index-section-clause-ok : goal.returns-then-index-section-clause-ok
returns-then-index-section-clause-ok c = grind (arith, nat_tests, any-default, section-joined)

pub returns-else-place-len-clause-ok : goal.returns-else-place-len-clause-ok
returns-else-place-len-clause-ok c =
    grind (arith, nat_tests, on_ok_weaker, section-inserted, any-default, else-place-len-via-else-place-len)
