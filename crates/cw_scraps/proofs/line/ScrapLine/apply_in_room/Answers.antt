-- The row at hand is that of the production's number, and room for a mark changes nothing else.
use Rattle.cw_scraps.proofs.Terms.{arith, common_steps}
use Rattle.cw_scraps.proofs.line.ScrapLine.apply_in_room.Goals as goal

pub apply_naming-requires-clause-fits : goal.apply_naming-requires-clause-fits
apply_naming-requires-clause-fits g c = rw c.of-row.ensures.row c.requires.fits

pub apply_marking-requires-clause-free : goal.apply_marking-requires-clause-free
apply_marking-requires-clause-free g c = grind (arith, common_steps)
