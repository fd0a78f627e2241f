-- Of an identifier the joiner prints all.
use Rattle.cw_print.proofs.Terms.{None, refl, sym, append-nil, item_is, shown, shown_next}
use Rattle.cw_print.proofs.PrintingLaws.{next-appended, next-behind}
use Rattle.cw_tokens.specs.declared.flat.FlatItem.TheVariants as flat_item
use Rattle.cw_print.proofs.printing.Printer.ident.Goals as goal

pub returns-clause-bytes : goal.returns-clause-bytes
returns-clause-bytes c = λ s inner items b. next-appended s inner items c.args.self.now b
    (flat_item.Ident c.args.name c.args.number) None refl c.args.buffer.now c.append.new.out c.append.new.out
    (c.in_ok-append.ensures.bytes (shown s items) b.stands) (sym (append-nil c.append.new.out))

pub returns-clause-behind : goal.returns-clause-behind
returns-clause-behind c = λ s inner items b. next-behind s inner items c.args.self.now b (flat_item.Ident c.args.name
    c.args.number) None refl _ b.titles b.names refl c.in_ok-append.ensures.inner (c.in_ok-append.ensures.stands
    (shown s items) (shown_next s items (item_is (flat_item.Ident c.args.name c.args.number))) b.stands refl)
