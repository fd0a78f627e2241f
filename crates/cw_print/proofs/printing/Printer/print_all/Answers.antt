-- One item goes behind another, and at the end comes what is left of a run.
use Rattle.std.proofs.Common.{length, Bool, [], ◌+◌, ap, ◌++◌, ◌∙◌, take, arith}
use Rattle.cw_tokens.specs.FlatItems.{items_are}
use Rattle.cw_lines.specs.laws.SheetLaws.{can-print-after, prints-bytes, prints-none}
use Rattle.cw_join.specs.Early.{late}
use Rattle.cw_print.specs.model.Printing.{shown}
use Rattle.cw_print.proofs.PrintingLaws.{fails-waiting, midway-ended, prints-all}
use Rattle.cw_print.proofs.PrintingLaws.{stops-waiting, waits-none, waits-on}
use Rattle.cw_print.proofs.printing.Printer.print_all.Goals as goal

pub loop-at-init : goal.loop-at-init
loop-at-init g c = record {
  within = omega arith;
  midway = λ s inner begun. begun;
  waiting = λ s inner begun. record { done = []; put = prints-none _ _ (tt {0}); all = c.requires.empty };
}

pub print-requires : goal.print-requires
print-requires g c =
    let begun = c.requires.midway in
    record {
      order = omega arith;
      within = omega arith;
      midway = record { s = begun.s; inner = begun.inner; midway = c.loop-at.invariant.midway _ _ begun.midway };
    }

pub returns-in_err-print : goal.returns-in_err-print
returns-in_err-print g c = λ s inner begun.
    stops-waiting inner s (items_are c.args.items.now) c.loop-at.at c.loop-at.buffer
    (c.loop-at.invariant.waiting s inner begun) c.from_residual.ensures.1

pub put_all-requires : goal.put_all-requires
put_all-requires g c =
    let begun = c.requires.midway in
    record { can = can-print-after c.requires.can (c.loop-at.invariant.waiting _ _ begun.midway).put }

pub returns-in_err-put_all : goal.returns-in_err-put_all
returns-in_err-put_all g c = λ s inner begun.
    fails-waiting inner s (items_are c.args.items.now) (c.loop-at.at + 1024) c.print.new.buffer
    (waits-on inner s (items_are c.args.items.now) c.loop-at.at (c.loop-at.at + 1024) c.loop-at.buffer
    c.print.new.buffer (c.loop-at.invariant.waiting s inner begun)
    (c.in_ok-print.ensures.bytes s inner (c.loop-at.invariant.midway s inner begun)))
    (prints-bytes c.as_slice.ensures c.in_err-put_all.ensures) c.from_residual-in_err-put_all.ensures.1

pub loop-at-preserved : goal.loop-at-preserved
loop-at-preserved g c = record {
  within = omega arith;
  midway = λ s inner begun. c.in_ok-print.ensures.midway s inner (c.loop-at.invariant.midway s inner begun);
  waiting = λ s inner begun.
      waits-none inner s (items_are c.args.items.now) (c.loop-at.at + 1024) c.print.new.buffer c.clear.new.buffer
      (waits-on inner s (items_are c.args.items.now) c.loop-at.at (c.loop-at.at + 1024) c.loop-at.buffer
      c.print.new.buffer (c.loop-at.invariant.waiting s inner begun)
      (c.in_ok-print.ensures.bytes s inner (c.loop-at.invariant.midway s inner begun)))
      (prints-bytes c.as_slice.ensures c.in_ok-put_all.ensures) c.clear.ensures;
}

pub print-requires-2 : goal.print-requires-2
print-requires-2 g c =
    let begun = c.requires.midway in
    record {
      order = omega (arith, c.loop-at.invariant.within);
      within = omega arith;
      midway = record { s = begun.s; inner = begun.inner; midway = c.loop-at.invariant.midway _ _ begun.midway };
    }

pub returns-in_err-print-2 : goal.returns-in_err-print-2
returns-in_err-print-2 g c = λ s inner begun.
    stops-waiting inner s (items_are c.args.items.now) c.loop-at.at c.loop-at.buffer
    (c.loop-at.invariant.waiting s inner begun) c.from_residual-in_err-print-2.ensures.1

pub append_end-requires : goal.append_end-requires
append_end-requires g c =
    let begun = c.requires.midway in
    record {
      closed = midway-ended c.args.items.now (length c.args.items.now) (omega arith) begun.s begun.inner
          c.print-2.new.self
          (c.in_ok-print-2.ensures.midway _ _ (c.loop-at.invariant.midway _ _ begun.midway));
    }

pub returns-in_err-append_end : goal.returns-in_err-append_end
returns-in_err-append_end g c = λ s inner begun.
    stops-waiting inner s (items_are c.args.items.now) c.loop-at.at c.loop-at.buffer
    (c.loop-at.invariant.waiting s inner begun) c.from_residual-in_err-append_end.ensures.1

pub put_all-requires-2 : goal.put_all-requires-2
put_all-requires-2 g c =
    let begun = c.requires.midway in
    record { can = can-print-after c.requires.can (c.loop-at.invariant.waiting _ _ begun.midway).put }

pub returns : goal.returns
returns g c = λ s inner begun.
    let midway = c.loop-at.invariant.midway s inner begun in
    let end = c.in_ok-print-2.ensures.midway s inner midway in
    prints-all c.args.items.now (length c.args.items.now) (omega arith) inner s c.print-2.new.buffer
    c.append_end.new.out
    (waits-on inner s (items_are c.args.items.now) c.loop-at.at (length c.args.items.now) c.loop-at.buffer
    c.print-2.new.buffer (c.loop-at.invariant.waiting s inner begun)
    (c.in_ok-print-2.ensures.bytes s inner midway))
    (c.in_ok-append_end.ensures.bytes (shown s (take (length c.args.items.now) (items_are c.args.items.now)))
    end.behind.stands
    ∙ ap (λ (b : Bool). c.print-2.new.buffer
    ++ late b (shown s (take (length c.args.items.now) (items_are c.args.items.now))))
    end.behind.same_inner)
    (prints-bytes c.as_slice-2.ensures c.put_all-2.ensures)
