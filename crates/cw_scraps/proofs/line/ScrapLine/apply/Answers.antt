-- The row of that number in the table is the one of the program's own data.
use Rattle.cw_scraps.proofs.Terms.{◌≡◌, productions, row_of}
use Rattle.cw_scraps.proofs.Applied.{same-row}
use Rattle.cw_scraps.proofs.line.ScrapLine.apply.Goals as goal

pub apply_row-requires-clause-fits : goal.apply_row-requires-clause-fits
apply_row-requires-clause-fits g c =
    let same : row_of c.args.table.now c.args.row.number ≡ row_of productions c.args.row.number =
    same-row _ _ _ c.row-same.ensures.number c.row-same.ensures.same in
    rw (← same) c.requires.fits

pub returns : goal.returns
returns g c =
    let same : row_of c.args.table.now c.args.row.number ≡ row_of productions c.args.row.number =
    same-row _ _ _ c.row-same.ensures.number c.row-same.ensures.same in
    rw same c.apply_row.ensures
