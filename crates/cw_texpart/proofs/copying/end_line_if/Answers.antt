-- Where the line isn't to be ended, nothing is put.
use Rattle.cw_texpart.proofs.Terms.{ap, sym, prints-bytes, prints-none, end_if}
use Rattle.cw_texpart.proofs.copying.end_line_if.Goals as goal

pub returns : goal.returns
returns g c = prints-bytes (ap end_if (sym c.if-ends.false)) (prints-none _ _ (tt {0}))
