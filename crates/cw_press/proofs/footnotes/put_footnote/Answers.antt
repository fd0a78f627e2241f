-- The letter, the numbers and the end of the line.
use Rattle.cw_press.proofs.Terms.{sym, ◌∙◌, codes, map, prints-bytes, prints-longer, prints-none, prints-stop}
use Rattle.cw_press.proofs.Terms.{prints-then, footnote_numbers, number_in}
use Rattle.cw_press.proofs.FootnoteLaws.{no-footnote, some-footnote}
use Rattle.cw_press.proofs.footnotes.put_footnote.Goals as goal

pub returns-then-is_empty : goal.returns-then-is_empty
returns-then-is_empty g c = prints-bytes (no-footnote c.args.book.now.outline.sections c.args.letter.now
    c.args.numbers.now (sym c.is_empty.ensures ∙ c.if-is_empty.true)) (prints-none _ _ _)

pub returns-in_err-put_all : goal.returns-in_err-put_all
returns-in_err-put_all g c = prints-bytes (some-footnote c.args.book.now.outline.sections c.args.letter.now
    c.args.numbers.now (sym c.is_empty.ensures ∙ c.if-is_empty.false)) (prints-stop (codes ".\n") (prints-longer
    (footnote_numbers (map (number_in c.args.book.now.outline.sections) c.args.numbers.now)) c.in_err-put_all.ensures)
    c.from_residual.ensures.1)

pub returns-in_err-put_numbers : goal.returns-in_err-put_numbers
returns-in_err-put_numbers g c = prints-bytes (some-footnote c.args.book.now.outline.sections c.args.letter.now
    c.args.numbers.now (sym c.is_empty.ensures ∙ c.if-is_empty.false)) (prints-stop (codes ".\n")
    (prints-then c.in_ok-put_all.ensures c.in_err-put_numbers.ensures) c.from_residual-in_err-put_numbers.ensures.1)

pub returns : goal.returns
returns g c = prints-bytes (some-footnote c.args.book.now.outline.sections c.args.letter.now c.args.numbers.now
    (sym c.is_empty.ensures ∙ c.if-is_empty.false))
    (prints-then (prints-then c.in_ok-put_all.ensures c.in_ok-put_numbers.ensures) c.put_all-2.ensures)
