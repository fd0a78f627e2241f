-- One empty list more changes the sections of no name.
use Rattle.cw_names.proofs.Terms.{arith, nat_tests}
use Rattle.cw_names.proofs.Mentions.{at-pushed}
use Rattle.cw_names.proofs.xrefs.add_lists.Goals as goal

pub names-preserved : goal.names-preserved
names-preserved c = grind (arith, nat_tests, at-pushed)
