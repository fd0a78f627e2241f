-- The headings are sorted, and then put.
use Rattle.cw_index.proofs.Terms.{ap, flat_map, prints-bytes, prints-failing, prints-nothing, row_bytes}
use Rattle.cw_index.proofs.PrintingLaws.{print-giving}
use Rattle.cw_index.proofs.index.print_index.Goals as goal

pub returns-in_err-headings-clause-prints : goal.returns-in_err-headings-clause-prints
returns-in_err-headings-clause-prints g c = prints-nothing _ _ c.from_residual.ensures.1

pub returns-in_err-put_headings-clause-prints : goal.returns-in_err-put_headings-clause-prints
returns-in_err-put_headings-clause-prints g c = prints-failing
    (ap (flat_map (row_bytes c.args.book.now.outline.sections)) c.in_ok-headings.ensures.rows)
    c.in_err-put_headings.ensures c.from_residual-in_err-put_headings.ensures.1

pub returns-clause-prints : goal.returns-clause-prints
returns-clause-prints g c = prints-bytes (ap (flat_map (row_bytes c.args.book.now.outline.sections))
    c.in_ok-headings.ensures.rows) (print-giving _ c.in_ok-put_headings.ensures)
