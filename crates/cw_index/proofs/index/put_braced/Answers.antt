-- The pieces, one behind another.
use Rattle.cw_index.proofs.Terms.{prints-stop, prints-then}
use Rattle.cw_index.proofs.index.put_braced.Goals as goal

pub returns-in_err-put_all : goal.returns-in_err-put_all
returns-in_err-put_all g c = prints-stop _ c.in_err-put_all.ensures c.from_residual.ensures.1

pub returns-in_err-put_all-2 : goal.returns-in_err-put_all-2
returns-in_err-put_all-2 g c = prints-then c.in_ok-put_all.ensures
    (prints-stop _ c.in_err-put_all-2.ensures c.from_residual-in_err-put_all-2.ensures.1)

pub returns-in_err-put_all-3 : goal.returns-in_err-put_all-3
returns-in_err-put_all-3 g c = prints-then c.in_ok-put_all.ensures (prints-then c.in_ok-put_all-2.ensures
    (prints-stop _ c.in_err-put_all-3.ensures c.from_residual-in_err-put_all-3.ensures.1))

pub returns : goal.returns
returns g c = prints-then c.in_ok-put_all.ensures
    (prints-then c.in_ok-put_all-2.ensures (prints-then c.in_ok-put_all-3.ensures c.put_all-4.ensures))
