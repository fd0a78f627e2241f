-- A join of pieces that agree with their modes agrees with its own.
use Rattle.cw_scraps.proofs.ModeLaw.{join-agrees}
use Rattle.cw_scraps.proofs.laws.mode_law.Goals as goal

pub returns : goal.returns
returns c = join-agrees
