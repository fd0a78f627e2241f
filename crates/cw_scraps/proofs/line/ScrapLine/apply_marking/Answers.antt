-- The row at hand is that of the production's number.
use Rattle.cw_scraps.proofs.Terms.{arith, common_steps}
use Rattle.cw_scraps.proofs.line.ScrapLine.apply_marking.Goals as goal

pub apply_naming-requires-clause-fits : goal.apply_naming-requires-clause-fits
apply_naming-requires-clause-fits g c = rw c.of-row.ensures.row c.requires.fits

pub apply_naming-requires-clause-reserve : goal.apply_naming-requires-clause-reserve
apply_naming-requires-clause-reserve g c = grind (arith, common_steps)
