-- The lines before the rest are read.
use Rattle.cw_logs.proofs.Terms.{◌+◌, ◌≤◌, length}
use Rattle.cw_logs.proofs.Judging.{ReadSoFar}
use Rattle.cw_logs.proofs.reading.judge.Given as goal

abbrev pub invariant-loop-rest : goal.invariant-loop-rest
invariant-loop-rest l = record {
  few : l.line + length l.rest ≤ length l.file + 1;
  read : ReadSoFar l.file l.rest l.spot l.line;
}

abbrev pub decreases-loop-rest : goal.decreases-loop-rest
decreases-loop-rest l = length l.rest
