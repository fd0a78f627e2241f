-- Where a row names no scrap there is no name, and no scrap is turned.
use Rattle.cw_scraps.proofs.Terms.{arith, common_steps}
use Rattle.cw_scraps.proofs.Applied.{unturned}
use Rattle.cw_scraps.proofs.reserving.turn_right.Goals as goal

pub returns-in-None-clause-scraps : goal.returns-in-None-clause-scraps
returns-in-None-clause-scraps g c = unturned _ _ _ (c.requires.unnamed c.in-None.is)

pub returns-in-Some-clause-steps : goal.returns-in-Some-clause-steps
returns-in-Some-clause-steps g c = grind (arith, common_steps)
