-- Other definitions, and then citations and uses.
use Rattle.cw_press.proofs.Terms.{Some, prints-bytes, prints-stop, prints-then, of_name, use_footnotes}
use Rattle.cw_press.proofs.FootnoteLaws.{defined-first}
use Rattle.cw_press.proofs.footnotes.put_name_footnotes.Goals as goal

pub returns-in_err-put_footnote : goal.returns-in_err-put_footnote
returns-in_err-put_footnote g c = prints-bytes (defined-first c.args.book.now.outline.sections c.args.book.now.sec_names
    c.args.id c.defined_in.result.now c.behind_first-others.result.now c.defined_in.ensures.value
    c.behind_first-others.ensures) (prints-stop (of_name (use_footnotes c.args.book.now.outline.sections)
    c.args.book.now.sec_names (Some c.args.id)) c.in_err-put_footnote.ensures c.from_residual.ensures.1)

pub returns : goal.returns
returns g c = prints-bytes (defined-first c.args.book.now.outline.sections c.args.book.now.sec_names c.args.id
    c.defined_in.result.now c.behind_first-others.result.now c.defined_in.ensures.value c.behind_first-others.ensures)
    (prints-then c.in_ok-put_footnote.ensures c.put_use_footnotes.ensures)
