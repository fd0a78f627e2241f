-- The first row for the four categories that are read fits at that place of the line.
use Rattle.cw_scraps.proofs.FirstRows.{window-line, first-line}
use Rattle.cw_unit_tests.proofs.row_tests.first_row.Goals as goal

pub returns-clause-fits : goal.returns-clause-fits
returns-clause-fits c = first-line c.args.line.now c.args.place _ _
    (rw (c.cat_at.ensures.cat, c.cat_at-2.ensures.cat, c.cat_at-3.ensures.cat, c.cat_at-4.ensures.cat)
    (window-line c.args.line.now c.args.place)) c.first_production.ensures.first
