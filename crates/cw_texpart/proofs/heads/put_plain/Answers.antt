-- The opening, the number and the closing brace are put one after another, and a failure ends the head.
use Rattle.cw_texpart.proofs.Terms.{prints-stop, prints-then}
use Rattle.cw_texpart.proofs.heads.put_plain.Goals as goal

pub returns-in_err-put_all : goal.returns-in_err-put_all
returns-in_err-put_all g c = prints-stop _ c.in_err-put_all.ensures c.from_residual.ensures.1

pub returns-in_err-put_number : goal.returns-in_err-put_number
returns-in_err-put_number g c = prints-then c.in_ok-put_all.ensures
    (prints-stop _ c.in_err-put_number.ensures c.from_residual-in_err-put_number.ensures.1)

pub returns : goal.returns
returns g c = prints-then c.in_ok-put_all.ensures (prints-then c.in_ok-put_number.ensures c.put_all-2.ensures)
