-- The places from the first one up to this are passed over.
use Rattle.std.proofs.Common.{◌≡◌, ◌-◌, length}
use Rattle.cw_rewrite.specs.model.Reduction.{PassesOver}
use Rattle.cw_rewrite.proofs.walk.walk_on.Given as goal

abbrev pub invariant-loop-place : goal.invariant-loop-place
invariant-loop-place g l = (l.line ≡ l.initial.line) × PassesOver l.initial.line l.from l.initial.steps l.place l.steps

abbrev pub decreases-loop-place : goal.decreases-loop-place
decreases-loop-place g l = length l.line - l.place
