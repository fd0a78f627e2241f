-- What stands before the number, and the number.
use Rattle.cw_index.proofs.Terms.{true, prints-bytes, prints-stop, prints-then, section_number}
use Rattle.cw_index.proofs.closing.put_change.Goals as goal

pub returns-in_err-put_all : goal.returns-in_err-put_all
returns-in_err-put_all g c = prints-stop (section_number c.args.number true)
    (prints-bytes c.before_change.ensures c.in_err-put_all.ensures) c.from_residual.ensures.1

pub returns : goal.returns
returns g c = prints-then (prints-bytes c.before_change.ensures c.in_ok-put_all.ensures) c.put_number.ensures
