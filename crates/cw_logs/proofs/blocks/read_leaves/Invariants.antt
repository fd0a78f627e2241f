-- So many leaf lines are read, and the others are to come.
use Rattle.cw_logs.proofs.Terms.{◌≡◌, ◌-◌, length, IsExtended}
use Rattle.cw_logs.proofs.BlockSteps.{LeavesSoFar}
use Rattle.cw_logs.proofs.blocks.read_leaves.Given as goal

abbrev pub invariant-loop : goal.invariant-loop
invariant-loop l = record {
  kept : IsExtended l.fn.names l.names;
  many : length l.leaves.items ≡ l.counter;
  read : LeavesSoFar l.fn.names l.names l.text l.leaves.items l.rest (l.count - l.counter);
}
