-- The rows are the sections, one by one.
use Rattle.cw_phase1.proofs.Terms.{arith}
use Rattle.cw_phase1.proofs.ChangedLaws.{changed-found, unchanged-passed}
use Rattle.cw_phase1.proofs.packed.SectionList.has_changed.Goals as goal

pub returns-then-row : goal.returns-then-row
returns-then-row c = grind (arith, changed-found)

pub loop-row-preserved : goal.loop-row-preserved
loop-row-preserved c = grind (arith, unchanged-passed)
