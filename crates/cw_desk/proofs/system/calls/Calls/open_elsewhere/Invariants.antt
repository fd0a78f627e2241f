-- Nothing is noted before the last place was looked at.
use Rattle.cw_desk.proofs.Terms.{◌≡◌}
use Rattle.cw_desk.proofs.system.calls.Calls.open_elsewhere.Given as goal

abbrev pub invariant-loop-place : goal.invariant-loop-place
invariant-loop-place l = l.self.trail.noted ≡ l.fn.self.trail.noted
