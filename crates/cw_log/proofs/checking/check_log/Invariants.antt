-- The blocks before the rest are checked; each is shorter than what was to come.
use Rattle.cw_log.proofs.Terms.{length}
use Rattle.cw_log.proofs.CheckLaws.{CheckedSoFar}
use Rattle.cw_log.proofs.checking.check_log.Given as goal

abbrev pub invariant-loop-rest : goal.invariant-loop-rest
invariant-loop-rest g l = CheckedSoFar l.log l.rest l.texts l.productions

abbrev pub decreases-loop-rest : goal.decreases-loop-rest
decreases-loop-rest g l = length l.rest
