-- A present name keeps its place, and a new one is behind all others.
use Rattle.cw_names.proofs.Terms.{arith, length-map, nat_tests}
use Rattle.cw_names.proofs.Lookup.{found-place, new-last, with_entry-present}
use Rattle.cw_names.proofs.names.Names.look_up.Goals as goal

pub returns-in-Some-clause-id : goal.returns-in-Some-clause-id
returns-in-Some-clause-id c = grind (arith, nat_tests, found-place)

pub returns-in-Some-clause-ok : goal.returns-in-Some-clause-ok
returns-in-Some-clause-ok c = grind (arith, nat_tests, found-place, length-map, with_entry-present)

pub add-requires : goal.add-requires
add-requires c = grind (arith, nat_tests, new-last)

pub returns-in-None-clause-id : goal.returns-in-None-clause-id
returns-in-None-clause-id c = grind (arith, nat_tests, new-last)

pub returns-in-None-clause-present : goal.returns-in-None-clause-present
returns-in-None-clause-present c = grind (arith, nat_tests, new-last)
