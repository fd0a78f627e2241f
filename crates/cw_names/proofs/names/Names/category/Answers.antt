-- The category that is read is that of the entry at this place, and it isn't the one of tests.
use Rattle.cw_names.proofs.Terms.{slice_get, arith, nat_tests}
use Rattle.std.proofs.lemmas.Option.{slice_get-map}
use Rattle.cw_names.proofs.Ends.{found}
use Rattle.cw_names.proofs.names.Names.category.Goals as goal

pub returns-clause-value : goal.returns-clause-value
returns-clause-value c = grind (arith, nat_tests, slice_get, slice_get-map)

pub returns-clause-real : goal.returns-clause-real
returns-clause-real c = grind (arith, nat_tests, found)
