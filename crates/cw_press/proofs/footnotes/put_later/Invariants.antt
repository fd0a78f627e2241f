-- The numbers so far are put.
use Rattle.cw_press.proofs.Terms.{length, map, later_numbers, number_in}
use Rattle.cw_press.proofs.PrintLaws.{Printing}
use Rattle.cw_press.proofs.footnotes.put_later.Given as goal

abbrev pub invariant-loop-rest : goal.invariant-loop-rest
invariant-loop-rest g l = Printing g.D.Desk.told (later_numbers (map (number_in l.book.outline.sections) l.rest))
    (later_numbers (map (number_in l.book.outline.sections) l.numbers)) l.fn.sheet l.sheet

abbrev pub decreases-loop-rest : goal.decreases-loop-rest
decreases-loop-rest g l = length l.rest
