-- The row that was found fits, since the rows of the table are the productions.
use Rattle.cw_scraps.proofs.Productions.{cats-same}
use Rattle.cw_unit_tests.proofs.row_tests.produce.Goals as goal

pub apply-requires-clause-fits : goal.apply-requires-clause-fits
apply-requires-clause-fits c = rw (c.table.ensures.rows, cats-same _ _) c.in-Some.ensures.fits
