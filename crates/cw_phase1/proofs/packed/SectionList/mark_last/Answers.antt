-- The last row is the last section.
use Rattle.cw_phase1.proofs.Terms.{◌-◌, arith, vec_len}
use Rattle.cw_phase1.proofs.ChangedLaws.{last-marked, marked-changed, none-changed}
use Rattle.cw_phase1.proofs.packed.SectionList.mark_last.Goals.{in-Some, in_default}
use Rattle.cw_phase1.proofs.packed.SectionList.mark_last.Goals as goal

pub returns : goal.returns
returns c = grind (arith, in-Some, vec_len, last-marked, marked-changed, in_default, none-changed)
