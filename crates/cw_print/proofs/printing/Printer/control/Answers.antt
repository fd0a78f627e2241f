-- What a control prints by where it stands goes behind what the joiner prints of it.
use Rattle.cw_print.proofs.Terms.{None, refl, sym, ap, ◌∙◌, ◌++◌, append-nil, on_ok_weaker, item_is, shown, shown_next}
use Rattle.cw_print.proofs.Terms.{ItemPrint, behind}
use Rattle.cw_print.proofs.PrintingLaws.{next-appended, next-behind}
use Rattle.cw_tokens.specs.declared.flat.FlatItem.TheVariants as flat_item
use Rattle.cw_print.proofs.printing.Printer.control.Goals as goal

pub returns-then-is_placed-clause-bytes : goal.returns-then-is_placed-clause-bytes
returns-then-is_placed-clause-bytes c = λ s inner items b. on_ok_weaker c.show_control.result (next-appended s inner
    items c.args.self.now b (flat_item.Control c.args.control) None refl c.args.buffer.now c.append.new.out
    c.show_control.new.out (c.in_ok-append.ensures.bytes (shown s items) b.stands)) c.show_control.ensures.bytes

pub returns-then-is_placed-clause-behind : goal.returns-then-is_placed-clause-behind
returns-then-is_placed-clause-behind c = λ s inner items b. on_ok_weaker c.show_control.result
    (λ walk. next-behind s inner items c.args.self.now b (flat_item.Control c.args.control) None refl _ b.titles b.names
    walk c.in_ok-append.ensures.inner (c.in_ok-append.ensures.stands (shown s items)
    (shown_next s items (item_is (flat_item.Control c.args.control))) b.stands refl)) c.show_control.ensures.stand

pub returns-clause-bytes : goal.returns-clause-bytes
returns-clause-bytes c = λ s inner items b. next-appended s inner items c.args.self.now b
    (flat_item.Control c.args.control) None refl c.args.buffer.now c.append.new.out c.append.new.out
    (c.in_ok-append.ensures.bytes (shown s items) b.stands) (sym (append-nil c.append.new.out) ∙ ap (λ (x : ItemPrint).
    c.append.new.out ++ x.bytes) (sym ((rw c.if-is_placed.false at c.is_placed.ensures) c.args.self.now.walk.stand)))

pub returns-clause-behind : goal.returns-clause-behind
returns-clause-behind c = λ s inner items b. next-behind s inner items c.args.self.now b (flat_item.Control
    c.args.control) None refl _ b.titles b.names (ap (behind c.args.self.now.walk) (sym ((rw c.if-is_placed.false at
    c.is_placed.ensures) c.args.self.now.walk.stand))) c.in_ok-append.ensures.inner (c.in_ok-append.ensures.stands
    (shown s items) (shown_next s items (item_is (flat_item.Control c.args.control))) b.stands refl)
