-- The bracket goes behind what the joiner prints of it, where inner texts are wrapped.
use Rattle.cw_print.proofs.Terms.{None, refl, on_ok_weaker, item_is, shown, shown_next}
use Rattle.cw_print.proofs.PrintingLaws.{next-appended, next-behind}
use Rattle.cw_tokens.specs.declared.flat.FlatItem.TheVariants as flat_item
use Rattle.cw_print.proofs.printing.Printer.close.Goals as goal

pub returns-clause-bytes : goal.returns-clause-bytes
returns-clause-bytes c = λ s inner items b. on_ok_weaker c.put_bracket.result
    (next-appended s inner items c.args.self.now b flat_item.Close None refl c.args.buffer.now c.append.new.out
    c.put_bracket.new.out (c.in_ok-append.ensures.bytes (shown s items) b.stands)) c.put_bracket.ensures

pub returns-clause-behind : goal.returns-clause-behind
returns-clause-behind c = λ s inner items b. on_ok_weaker c.put_bracket.result (λ _done. next-behind s inner items
    c.args.self.now b flat_item.Close None refl _ b.titles b.names refl c.in_ok-append.ensures.inner
    (c.in_ok-append.ensures.stands (shown s items) (shown_next s items (item_is flat_item.Close)) b.stands refl))
    c.put_bracket.ensures
