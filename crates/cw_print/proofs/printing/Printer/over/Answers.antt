-- The answers are those of the text.
use Rattle.cw_print.proofs.Terms.{refl, ◌∙◌}
use Rattle.cw_print.proofs.printing.Printer.over.Goals as goal

pub returns : goal.returns
returns c = record {
  titles = refl;
  names = refl;
  fixed = λ i. record {
    answers = c.over.ensures.answers i;
    wraps = c.over.ensures.wraps i;
    first = (c.over.ensures.first ∙ c.is_first.ensures) i;
    lists = (c.over.ensures.lists ∙ c.lists_all.ensures) i;
  };
  stand = c.over.ensures.outside;
  same_inner = c.new.ensures.inner;
  stands = c.new.ensures.stands;
}
