-- The backslash is put, and then the bytes that it stands before.
use Rattle.cw_join.proofs.Terms.{refl, prints-failing, prints-longer, prints-then}
use Rattle.cw_join.proofs.naming.put_marked.Goals as goal

pub returns-in_err-put_all : goal.returns-in_err-put_all
returns-in_err-put_all g c = prints-failing refl (prints-longer c.args.bytes.now c.in_err-put_all.ensures)
    c.from_residual.ensures.1

pub returns : goal.returns
returns g c = prints-then c.in_ok-put_all.ensures c.put_all-2.ensures
