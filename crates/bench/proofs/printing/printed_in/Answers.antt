-- The translation is a list of the store.
use Rattle.std.proofs.Common.{arith}
use Rattle.bench.proofs.printing.printed_in.Goals as goal

pub measured-requires-clause-list : goal.measured-requires-clause-list
measured-requires-clause-list g c = c.in_ok-done.ensures.list.root.there 0 (omega arith)
