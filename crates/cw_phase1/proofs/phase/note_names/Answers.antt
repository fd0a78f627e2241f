-- The notes on one name more.
use Rattle.cw_phase1.proofs.Terms.{append_assoc, arith}
use Rattle.cw_phase1.proofs.Referred.{names-step}
use Rattle.cw_phase1.proofs.phase.note_names.Goals as goal

pub loop-k-preserved : goal.loop-k-preserved
loop-k-preserved c = grind (arith, append_assoc, names-step)
