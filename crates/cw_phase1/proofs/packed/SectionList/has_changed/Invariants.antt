-- None of the sections so far is changed, so those that are left decide.
use Rattle.cw_phase1.proofs.Terms.{◌≡◌, drop, has_changed}
use Rattle.cw_phase1.proofs.packed.SectionList.has_changed.Given as goal

abbrev pub invariant-loop-row : goal.invariant-loop-row
invariant-loop-row l = has_changed (drop l.row-index l.self) ≡ has_changed l.self
