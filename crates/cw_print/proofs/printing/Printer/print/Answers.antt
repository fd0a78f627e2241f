-- Each kind of item is printed behind those before it.
use Rattle.cw_print.proofs.Terms.{◌+◌, arith, items_are}
use Rattle.cw_print.proofs.PrintingLaws.{at-slice, printed-behind, printed-bytes, printed-comes, printed-midway}
use Rattle.cw_print.proofs.PrintingLaws.{printed-more}
use Rattle.cw_print.proofs.printing.Printer.print.Goals.{in-Source+in_ok-source-in-Source}
use Rattle.cw_print.proofs.printing.Printer.print.Goals.{in-Control+in_ok-control-in-Control}
use Rattle.cw_print.proofs.printing.Printer.print.Goals.{in-Ident+in_ok-ident-in-Ident}
use Rattle.cw_print.proofs.printing.Printer.print.Goals.{in-Reserved+in_ok-reserved-in-Reserved}
use Rattle.cw_print.proofs.printing.Printer.print.Goals.{in-Open+in_ok-open-in-Open, in-Close+in_ok-close-in-Close}
use Rattle.cw_print.proofs.printing.Printer.print.Goals as goal

pub source-requires : goal.source-requires
source-requires c = record {
  come = printed-comes c.args.items.now (c.args.from + c.loop-item.item-index) _
      (at-slice c.args.items.now c.args.from c.args.to c.loop-item.item-index _ _ c.in-Source.is
      (omega (arith, c.loop-item-test.true)) c.requires.within) c.args.from c.args.self.now c.loop-item.self
      c.args.buffer.now c.loop-item.buffer c.loop-item.invariant c.requires.midway (omega arith);
}

pub control-requires : goal.control-requires
control-requires c = record {
  come = printed-comes c.args.items.now (c.args.from + c.loop-item.item-index) _
      (at-slice c.args.items.now c.args.from c.args.to c.loop-item.item-index _ _ c.in-Control.is
      (omega (arith, c.loop-item-test.true)) c.requires.within) c.args.from c.args.self.now c.loop-item.self
      c.args.buffer.now c.loop-item.buffer c.loop-item.invariant c.requires.midway (omega arith);
}

pub ident-requires : goal.ident-requires
ident-requires c = record {
  come = printed-comes c.args.items.now (c.args.from + c.loop-item.item-index) _
      (at-slice c.args.items.now c.args.from c.args.to c.loop-item.item-index _ _ c.in-Ident.is
      (omega (arith, c.loop-item-test.true)) c.requires.within) c.args.from c.args.self.now c.loop-item.self
      c.args.buffer.now c.loop-item.buffer c.loop-item.invariant c.requires.midway (omega arith);
}

pub reserved-requires : goal.reserved-requires
reserved-requires c = record {
  come = printed-comes c.args.items.now (c.args.from + c.loop-item.item-index) _
      (at-slice c.args.items.now c.args.from c.args.to c.loop-item.item-index _ _ c.in-Reserved.is
      (omega (arith, c.loop-item-test.true)) c.requires.within) c.args.from c.args.self.now c.loop-item.self
      c.args.buffer.now c.loop-item.buffer c.loop-item.invariant c.requires.midway (omega arith);
}

pub open-requires : goal.open-requires
open-requires c = record {
  come = printed-comes c.args.items.now (c.args.from + c.loop-item.item-index) _
      (at-slice c.args.items.now c.args.from c.args.to c.loop-item.item-index _ _ c.in-Open.is
      (omega (arith, c.loop-item-test.true)) c.requires.within) c.args.from c.args.self.now c.loop-item.self
      c.args.buffer.now c.loop-item.buffer c.loop-item.invariant c.requires.midway (omega arith);
}

pub close-requires : goal.close-requires
close-requires c = record {
  come = printed-comes c.args.items.now (c.args.from + c.loop-item.item-index) _
      (at-slice c.args.items.now c.args.from c.args.to c.loop-item.item-index _ _ c.in-Close.is
      (omega (arith, c.loop-item-test.true)) c.requires.within) c.args.from c.args.self.now c.loop-item.self
      c.args.buffer.now c.loop-item.buffer c.loop-item.invariant c.requires.midway (omega arith);
}

pub loop-item-preserved : goal.loop-item-preserved
loop-item-preserved c = elim c.match-item.branch [
  | in-Source+in_ok-source-in-Source w ↦
      rw w.self-is (rw w.buffer-is (printed-behind _ _ c.loop-item.item-index _ _ _ _ (printed-more c.args.items.now
      (c.args.from + c.loop-item.item-index) _ (at-slice c.args.items.now c.args.from c.args.to c.loop-item.item-index _
      _ w.in-Source.is (omega (arith, c.loop-item-test.true)) c.requires.within) c.args.from c.args.self.now
      c.loop-item.self c.args.buffer.now c.loop-item.buffer c.loop-item.invariant w.source.new.self w.source.new.buffer
      w.in_ok-source-in-Source.ensures.bytes w.in_ok-source-in-Source.ensures.behind)))
  | in-Control+in_ok-control-in-Control w ↦
      rw w.self-is (rw w.buffer-is (printed-behind _ _ c.loop-item.item-index _ _ _ _ (printed-more c.args.items.now
      (c.args.from + c.loop-item.item-index) _ (at-slice c.args.items.now c.args.from c.args.to c.loop-item.item-index _
      _ w.in-Control.is (omega (arith, c.loop-item-test.true)) c.requires.within) c.args.from c.args.self.now
      c.loop-item.self c.args.buffer.now c.loop-item.buffer c.loop-item.invariant w.control.new.self
      w.control.new.buffer w.in_ok-control-in-Control.ensures.bytes w.in_ok-control-in-Control.ensures.behind)))
  | in-Ident+in_ok-ident-in-Ident w ↦
      rw w.self-is (rw w.buffer-is (printed-behind _ _ c.loop-item.item-index _ _ _ _
      (printed-more c.args.items.now (c.args.from + c.loop-item.item-index) _ (at-slice c.args.items.now c.args.from
      c.args.to c.loop-item.item-index _ _ w.in-Ident.is (omega (arith, c.loop-item-test.true)) c.requires.within)
      c.args.from c.args.self.now c.loop-item.self c.args.buffer.now c.loop-item.buffer c.loop-item.invariant
      w.ident.new.self w.ident.new.buffer w.in_ok-ident-in-Ident.ensures.bytes w.in_ok-ident-in-Ident.ensures.behind)))
  | in-Reserved+in_ok-reserved-in-Reserved w ↦
      rw w.self-is (rw w.buffer-is (printed-behind _ _ c.loop-item.item-index _ _ _ _ (printed-more c.args.items.now
      (c.args.from + c.loop-item.item-index) _ (at-slice c.args.items.now c.args.from c.args.to c.loop-item.item-index _
      _ w.in-Reserved.is (omega (arith, c.loop-item-test.true)) c.requires.within) c.args.from c.args.self.now
      c.loop-item.self c.args.buffer.now c.loop-item.buffer c.loop-item.invariant w.reserved.new.self
      w.reserved.new.buffer w.in_ok-reserved-in-Reserved.ensures.bytes w.in_ok-reserved-in-Reserved.ensures.behind)))
  | in-Open+in_ok-open-in-Open w ↦
      rw w.self-is (rw w.buffer-is (printed-behind _ _ c.loop-item.item-index _ _ _ _
      (printed-more c.args.items.now (c.args.from + c.loop-item.item-index) _ (at-slice c.args.items.now c.args.from
      c.args.to c.loop-item.item-index _ _ w.in-Open.is (omega (arith, c.loop-item-test.true)) c.requires.within)
      c.args.from c.args.self.now c.loop-item.self c.args.buffer.now c.loop-item.buffer c.loop-item.invariant
      w.open.new.self w.open.new.buffer w.in_ok-open-in-Open.ensures.bytes w.in_ok-open-in-Open.ensures.behind)))
  | in-Close+in_ok-close-in-Close w ↦
      rw w.self-is (rw w.buffer-is (printed-behind _ _ c.loop-item.item-index _ _ _ _
      (printed-more c.args.items.now (c.args.from + c.loop-item.item-index) _ (at-slice c.args.items.now c.args.from
      c.args.to c.loop-item.item-index _ _ w.in-Close.is (omega (arith, c.loop-item-test.true)) c.requires.within)
      c.args.from c.args.self.now c.loop-item.self c.args.buffer.now c.loop-item.buffer c.loop-item.invariant
      w.close.new.self w.close.new.buffer w.in_ok-close-in-Close.ensures.bytes w.in_ok-close-in-Close.ensures.behind)))
]

pub returns-clause-bytes : goal.returns-clause-bytes
returns-clause-bytes c = λ s inner m. printed-bytes (items_are c.args.items.now) c.args.from
    (c.args.from + c.loop-item.item-index) c.args.to
    c.args.self.now c.loop-item.self c.args.buffer.now c.loop-item.buffer c.loop-item.invariant (omega arith) s inner m

pub returns-clause-midway : goal.returns-clause-midway
returns-clause-midway c = λ s inner m. printed-midway (items_are c.args.items.now) c.args.from
    (c.args.from + c.loop-item.item-index) c.args.to
    c.args.self.now c.loop-item.self c.args.buffer.now c.loop-item.buffer c.loop-item.invariant (omega arith) s inner m
