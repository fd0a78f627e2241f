-- The opening, the depth, the number and the braces around them are put in order, and a failure ends the head.
use Rattle.cw_texpart.proofs.Terms.{codes, prints-longer, prints-stop, prints-then, section_number}
use Rattle.cw_texpart.proofs.heads.put_starred.Goals as goal

pub returns-in_err-put_all : goal.returns-in_err-put_all
returns-in_err-put_all g c = prints-stop _ c.in_err-put_all.ensures c.from_residual.ensures.1

pub returns-in_err-put_all-2 : goal.returns-in_err-put_all-2
returns-in_err-put_all-2 g c = prints-stop (codes "}") (prints-longer (section_number c.args.number c.args.changed)
    (prints-longer (codes "}{") (prints-then c.in_ok-put_all.ensures c.in_err-put_all-2.ensures)))
    c.from_residual-in_err-put_all-2.ensures.1

pub returns-in_err-put_all-3 : goal.returns-in_err-put_all-3
returns-in_err-put_all-3 g c = prints-stop (codes "}") (prints-longer (section_number c.args.number c.args.changed)
    (prints-then (prints-then c.in_ok-put_all.ensures c.in_ok-put_all-2.ensures) c.in_err-put_all-3.ensures))
    c.from_residual-in_err-put_all-3.ensures.1

pub returns-in_err-put_number : goal.returns-in_err-put_number
returns-in_err-put_number g c = prints-stop (codes "}")
    (prints-then (prints-then (prints-then c.in_ok-put_all.ensures c.in_ok-put_all-2.ensures) c.in_ok-put_all-3.ensures)
    c.in_err-put_number.ensures) c.from_residual-in_err-put_number.ensures.1

pub returns : goal.returns
returns g c = prints-then (prints-then (prints-then (prints-then c.in_ok-put_all.ensures c.in_ok-put_all-2.ensures)
    c.in_ok-put_all-3.ensures) c.in_ok-put_number.ensures) c.put_all-4.ensures
