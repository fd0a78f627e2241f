-- The comma is put, and then the section as it is referred to; a failure of the first ends both.
use Rattle.cw_index.proofs.Terms.{prints-stop, prints-then}
use Rattle.cw_index.proofs.index.put_listed.Goals as goal

pub returns-in_err-put_all : goal.returns-in_err-put_all
returns-in_err-put_all g c = prints-stop _ c.in_err-put_all.ensures c.from_residual.ensures.1

pub returns : goal.returns
returns g c = prints-then c.in_ok-put_all.ensures c.put_reference.ensures
