-- All items are printed by a printer that stands before the first one.
use Rattle.cw_tokens.specs.FlatItems.{items_are}
use Rattle.cw_lines.specs.laws.SheetLaws.{prints-nothing}
use Rattle.cw_print.specs.model.Printing.{source_of}
use Rattle.cw_print.proofs.PrintingLaws.{midway-begun}
use Rattle.cw_print.proofs.printing.print_items.Goals as goal

pub returns-in_err-buffer : goal.returns-in_err-buffer
returns-in_err-buffer g c = prints-nothing _ _ c.from_residual.ensures.1

pub print_all-printed-requires : goal.print_all-printed-requires
print_all-printed-requires g c = record {
  can = c.requires.can;
  empty = c.in_ok-buffer.ensures;
  midway = record {
    s = source_of c.args.c;
    inner = c.args.c.inner;
    midway = midway-begun (source_of c.args.c) c.args.c.inner (items_are c.args.items.now) c.over-printer.result
        c.over-printer.ensures c.requires.come;
  };
}

pub returns : goal.returns
returns g c =
    c.print_all-printed.ensures (source_of c.args.c) c.args.c.inner
    (midway-begun (source_of c.args.c) c.args.c.inner (items_are c.args.items.now) c.over-printer.result
    c.over-printer.ensures c.requires.come)
