-- The names before the rest are added.
use Rattle.cw_logs.proofs.Terms.{length, IsExtended}
use Rattle.cw_logs.proofs.NameSteps.{NamesSoFar}
use Rattle.cw_logs.proofs.blocks.read_names.Given as goal

abbrev pub invariant-loop-cut : goal.invariant-loop-cut
invariant-loop-cut l = record {
  kept : IsExtended l.fn.names l.names;
  read : NamesSoFar l.fn.names l.names l.text l.ids.items l.rest;
}

abbrev pub decreases-loop-cut : goal.decreases-loop-cut
decreases-loop-cut l = length l.rest
