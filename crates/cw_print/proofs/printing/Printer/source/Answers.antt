-- What a token prints by where it stands goes behind what the joiner prints of it.
use Rattle.cw_print.proofs.Terms.{List, refl, ap, sym, ◌∙◌, subst, on_ok_weaker, Printable, FlatItem, item_is, Stands}
use Rattle.cw_print.proofs.Terms.{shown, shown_next, titles, Walked}
use Rattle.cw_print.proofs.PrintingLaws.{next-appended, next-stand, shown-more}
use Rattle.cw_tokens.specs.declared.flat.FlatItem.TheVariants as flat_item
use Rattle.cw_print.proofs.printing.Printer.source.Goals as goal

pub returns-clause-bytes : goal.returns-clause-bytes
returns-clause-bytes c = λ s inner items b. on_ok_weaker c.show_source.result
    (next-appended s inner items c.args.self.now b (flat_item.Source c.args.number)
    (titles c.args.self.now.book.now c.args.number) refl c.args.buffer.now c.append.new.out c.show_source.new.out
    (c.in_ok-append.ensures.bytes (shown s items) b.stands)) c.show_source.ensures.bytes

pub returns-clause-behind : goal.returns-clause-behind
returns-clause-behind c = λ s inner items b.
    let item : FlatItem = flat_item.Source c.args.number in
    on_ok_weaker c.show_source.result (λ walk. record {
      titles = b.titles;
      names = b.names;
      fixed = ap (λ (w : Walked). w.fixed) walk ∙ b.fixed;
      stand = ap (λ (w : Walked). w.stand) walk
          ∙ next-stand s inner items c.args.self.now b item (titles c.args.self.now.book.now c.args.number) refl;
      same_inner = c.in_ok-append.ensures.inner ∙ b.same_inner;
      stands = subst (λ (ps : List Printable). Stands c.append.new.self ps) (sym (shown-more s items (item_is item)))
          (c.in_ok-append.ensures.stands (shown s items) (shown_next s items (item_is item)) b.stands refl);
    }) c.show_source.ensures.stand
