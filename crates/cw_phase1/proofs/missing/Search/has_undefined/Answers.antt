-- The name at hand is the first of those that are left.
use Rattle.cw_phase1.proofs.Terms.{arith}
use Rattle.cw_phase1.proofs.MissingLaws.{any-more}
use Rattle.cw_phase1.proofs.missing.Search.has_undefined.Goals as goal

pub returns-then-has_no_definition : goal.returns-then-has_no_definition
returns-then-has_no_definition c = grind (arith, any-more)

pub loop-k-preserved : goal.loop-k-preserved
loop-k-preserved c = grind (arith, any-more)
