-- The answers up to the place, and what is still to come up to a section code, are all up to there.
use Rattle.cw_print.proofs.ScanLaws.{until-on}
use Rattle.cw_print.proofs.scan.section_place.Goals as goal

pub loop-place-preserved : goal.loop-place-preserved
loop-place-preserved c =
    until-on _ _ _ ((rw c.if-ends_text.false at c.ends_text.ensures.other) _ _ c.at.ensures) c.loop-place.invariant
