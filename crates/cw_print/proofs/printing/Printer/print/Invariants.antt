-- The printer stands behind the items so far, and they are printed.
use Rattle.cw_print.proofs.Terms.{◌+◌, items_are}
use Rattle.cw_print.proofs.PrintingLaws.{Printed}
use Rattle.cw_print.proofs.printing.Printer.print.Given as goal

abbrev pub invariant-loop-item : goal.invariant-loop-item
invariant-loop-item l = Printed (items_are l.fn.items) l.fn.from (l.fn.from + l.item-index) l.fn.self l.self l.fn.buffer
    l.buffer
