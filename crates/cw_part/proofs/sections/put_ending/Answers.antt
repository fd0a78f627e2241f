-- The footnotes, and what stands behind them.
use Rattle.cw_part.proofs.Terms.{codes, prints-stop, prints-then}
use Rattle.cw_part.proofs.sections.put_ending.Goals as goal

pub returns-in_err-put_footnotes : goal.returns-in_err-put_footnotes
returns-in_err-put_footnotes g c =
    prints-stop (codes "\\fi\n\n") c.in_err-put_footnotes.ensures c.from_residual.ensures.1

pub returns : goal.returns
returns g c = prints-then c.in_ok-put_footnotes.ensures c.put_all.ensures
