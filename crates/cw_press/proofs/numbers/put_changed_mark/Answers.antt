-- A section without a changed line has no mark.
use Rattle.cw_press.proofs.Terms.{ap, sym, prints-bytes, prints-none, changed_mark}
use Rattle.cw_press.proofs.numbers.put_changed_mark.Goals as goal

pub returns : goal.returns
returns g c = prints-bytes (ap changed_mark (sym c.if-changed.false)) (prints-none _ _ (tt {0}))
