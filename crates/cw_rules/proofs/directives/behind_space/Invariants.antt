-- What is left to skip is what was to be skipped from the beginning.
use Rattle.std.proofs.Common.{◌≡◌, ◌≤◌, ◌-◌, length, drop}
use Rattle.cw_rules.specs.Tokens.{behind_space}
use Rattle.cw_rules.proofs.directives.behind_space.Given as goal

abbrev pub invariant-loop-at : goal.invariant-loop-at
invariant-loop-at l = (l.at ≤ length l.bytes) × (behind_space l.last (drop l.at l.bytes) ≡ behind_space 0 l.bytes)

abbrev pub decreases-loop-at : goal.decreases-loop-at
decreases-loop-at l = length l.bytes - l.at
