-- Each reference is to a name that is kept.
use Rattle.cw_phase1.proofs.Terms.{slice_index_or, arith}
use Rattle.cw_phase1.proofs.Referred.{of-kept}
use Rattle.cw_phase1.proofs.phase.refer.Goals as goal

pub add_ref-requires : goal.add_ref-requires
add_ref-requires c = rw c.id.ensures (grind (arith, slice_index_or, of-kept))
