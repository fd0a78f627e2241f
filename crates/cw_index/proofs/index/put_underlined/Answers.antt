-- The number between its brackets.
use Rattle.cw_index.proofs.Terms.{prints-stop, prints-then}
use Rattle.cw_index.proofs.index.put_underlined.Goals as goal

pub returns-in_err-put_all : goal.returns-in_err-put_all
returns-in_err-put_all g c = prints-stop _ c.in_err-put_all.ensures c.from_residual.ensures.1

pub returns-in_err-put_section_number : goal.returns-in_err-put_section_number
returns-in_err-put_section_number g c = prints-then c.in_ok-put_all.ensures
    (prints-stop _ c.in_err-put_section_number.ensures c.from_residual-in_err-put_section_number.ensures.1)

pub returns : goal.returns
returns g c = prints-then c.in_ok-put_all.ensures (prints-then c.in_ok-put_section_number.ensures c.put_all-2.ensures)
