-- One empty list more gives no section a name.
use Rattle.cw_mini.proofs.Terms.{◌∙◌, ap, arith, rules, names_at}
use Rattle.cw_mini.proofs.NamesAt.{at-pushed}
use Rattle.cw_mini.proofs.listing.Listing.for_sections.Goals as goal

pub sections-preserved : goal.sections-preserved
sections-preserved c = record {
  names = λ section. ap (names_at section) c.in_ok-push.ensures.items ∙ at-pushed c.sections.by_section.items
      c.new.result section c.new.ensures.items ∙ c.sections.invariant.names section;
  len = search (rules, arith);
}
