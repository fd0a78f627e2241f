-- A new name is last, and the built-in words stay first.
use Rattle.cw_names.proofs.Terms.{arith, length-map, nat_tests}
use Rattle.cw_names.proofs.{Ends.inserted, First.words-entered, Lookup.key_eq, Lookup.with_entry-new, Lookup.length-new}
use Rattle.cw_names.proofs.names.Names.add.Goals as goal

pub returns-clause-within : goal.returns-clause-within
returns-clause-within c = grind (arith, nat_tests, length-map, length-new)

pub returns-clause-ok : goal.returns-clause-ok
returns-clause-ok c = grind (arith, nat_tests, length-map, with_entry-new)

pub invariant_of-self-2 : goal.invariant_of-self-2
invariant_of-self-2 c = grind (arith, nat_tests, length-map, key_eq, with_entry-new, inserted, words-entered)
