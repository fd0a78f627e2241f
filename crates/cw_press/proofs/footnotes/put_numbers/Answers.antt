-- A footnote without numbers puts nothing.
use Rattle.cw_press.proofs.Terms.{arith, prints-bytes, prints-none, number_in}
use Rattle.cw_press.proofs.FootnoteLaws.{no-numbers}
use Rattle.cw_press.proofs.footnotes.put_numbers.Goals as goal

pub returns-in-empty : goal.returns-in-empty
returns-in-empty g c = prints-bytes (no-numbers (number_in c.args.book.now.outline.sections) c.args.numbers.now
    (omega (arith, c.in-empty.len_below))) (prints-none _ _ _)
