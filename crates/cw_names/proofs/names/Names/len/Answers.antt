-- No two entries have the same kind and text, since no two keys of the hash table are equal.
use Rattle.cw_names.proofs.Terms.{arith, nat_tests}
use Rattle.cw_names.proofs.Apart.{entries-distinct}
use Rattle.cw_names.proofs.names.Names.len.Goals as goal

pub returns-clause-distinct : goal.returns-clause-distinct
returns-clause-distinct c = grind (arith, nat_tests, entries-distinct)
