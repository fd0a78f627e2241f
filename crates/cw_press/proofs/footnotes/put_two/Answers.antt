-- One piece goes behind another.
use Rattle.cw_press.proofs.Terms.{codes, prints-longer, prints-stop, prints-then, number_in}
use Rattle.cw_press.proofs.footnotes.put_two.Goals as goal

pub returns-in_err-put_all : goal.returns-in_err-put_all
returns-in_err-put_all g c = prints-stop _ c.in_err-put_all.ensures c.from_residual.ensures.1

pub returns-in_err-put_section : goal.returns-in_err-put_section
returns-in_err-put_section g c = prints-stop (number_in c.args.book.now.outline.sections c.args.two)
    (prints-longer (codes "\\ET") (prints-then c.in_ok-put_all.ensures c.in_err-put_section.ensures))
    c.from_residual-in_err-put_section.ensures.1

pub returns-in_err-put_all-2 : goal.returns-in_err-put_all-2
returns-in_err-put_all-2 g c = prints-stop (number_in c.args.book.now.outline.sections c.args.two)
    (prints-then (prints-then c.in_ok-put_all.ensures c.in_ok-put_section.ensures) c.in_err-put_all-2.ensures)
    c.from_residual-in_err-put_all-2.ensures.1

pub returns : goal.returns
returns g c = prints-then (prints-then
    (prints-then c.in_ok-put_all.ensures c.in_ok-put_section.ensures) c.in_ok-put_all-2.ensures) c.put_section-2.ensures
