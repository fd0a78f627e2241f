-- The printer stands behind the items so far; what they print early is put, or waits.
use Rattle.std.proofs.Common.{◌-◌, ◌≤◌, Bool, length}
use Rattle.cw_tokens.specs.FlatItems.{items_are}
use Rattle.cw_print.specs.model.Printing.{Midway}
use Rattle.cw_print.specs.Walk.{PrintSource}
use Rattle.cw_print.proofs.PrintingLaws.{Waiting}
use Rattle.cw_print.proofs.printing.Printer.print_all.Given as goal

abbrev pub invariant-loop-at : goal.invariant-loop-at
invariant-loop-at g l = record {
  within : l.at ≤ length l.items;
  midway : (s : PrintSource) (inner : Bool) → Midway s inner (items_are l.items) 0 l.fn.self
      → Midway s inner (items_are l.items) l.at l.self;
  waiting : (s : PrintSource) (inner : Bool) → Midway s inner (items_are l.items) 0 l.fn.self
      → Waiting g.D.Desk.told inner s (items_are l.items) l.at l.buffer l.fn.sheet l.sheet;
}

abbrev pub decreases-loop-at : goal.decreases-loop-at
decreases-loop-at g l = length l.items - l.at
