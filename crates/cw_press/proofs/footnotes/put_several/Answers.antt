-- The first number, and those behind it.
use Rattle.cw_press.proofs.Terms.{map, prints-bytes, prints-longer, prints-stop, prints-then, later_numbers, number_in}
use Rattle.cw_press.proofs.FootnoteLaws.{several-numbers}
use Rattle.cw_press.proofs.footnotes.put_several.Goals as goal

pub returns-in_err-put_all : goal.returns-in_err-put_all
returns-in_err-put_all g c = prints-bytes
    (several-numbers (number_in c.args.book.now.outline.sections) c.args.one c.args.later.now c.requires.several)
    (prints-stop (later_numbers (map (number_in c.args.book.now.outline.sections) c.args.later.now)) (prints-longer
    (number_in c.args.book.now.outline.sections c.args.one) c.in_err-put_all.ensures) c.from_residual.ensures.1)

pub returns-in_err-put_section : goal.returns-in_err-put_section
returns-in_err-put_section g c = prints-bytes
    (several-numbers (number_in c.args.book.now.outline.sections) c.args.one c.args.later.now c.requires.several)
    (prints-stop (later_numbers (map (number_in c.args.book.now.outline.sections) c.args.later.now))
    (prints-then c.in_ok-put_all.ensures c.in_err-put_section.ensures) c.from_residual-in_err-put_section.ensures.1)

pub returns : goal.returns
returns g c = prints-bytes
    (several-numbers (number_in c.args.book.now.outline.sections) c.args.one c.args.later.now c.requires.several)
    (prints-then (prints-then c.in_ok-put_all.ensures c.in_ok-put_section.ensures) c.put_later.ensures)
