-- The pieces of the line, one behind another.
use Rattle.cw_index.proofs.Terms.{prints-stop, prints-then}
use Rattle.cw_index.proofs.index.put_heading.Goals as goal

pub returns-in_err-put_all : goal.returns-in_err-put_all
returns-in_err-put_all g c = prints-stop _ c.in_err-put_all.ensures c.from_residual.ensures.1

pub returns-in_err-put_entry : goal.returns-in_err-put_entry
returns-in_err-put_entry g c = prints-then c.in_ok-put_all.ensures
    (prints-stop _ c.in_err-put_entry.ensures c.from_residual-in_err-put_entry.ensures.1)

pub returns-in_err-put_sections : goal.returns-in_err-put_sections
returns-in_err-put_sections g c = prints-then c.in_ok-put_all.ensures (prints-then c.in_ok-put_entry.ensures
    (prints-stop _ c.in_err-put_sections.ensures c.from_residual-in_err-put_sections.ensures.1))

pub returns : goal.returns
returns g c = prints-then c.in_ok-put_all.ensures
    (prints-then c.in_ok-put_entry.ensures (prints-then c.in_ok-put_sections.ensures c.put_all-2.ensures))
