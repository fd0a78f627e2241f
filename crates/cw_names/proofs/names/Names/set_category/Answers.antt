-- The entry at this place has the new category, and the built-in words still stand first.
use Rattle.cw_names.proofs.Terms.{arith, nat_tests}
use Rattle.cw_names.proofs.{Ends.changed, First.words-changed, Lookup.with_category-map}
use Rattle.cw_names.proofs.names.Names.set_category.Goals as goal

pub returns : goal.returns
returns c = grind (arith, nat_tests, with_category-map)

pub invariant_of-self : goal.invariant_of-self
invariant_of-self c = grind (arith, nat_tests, changed, with_category-map, words-changed)
