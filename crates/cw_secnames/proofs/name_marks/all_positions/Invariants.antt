-- The positions so far are there.
use Rattle.std.proofs.Common.{◌≡◌, ℕ, ◌<◌, true}
use Rattle.cw_secnames.specs.Marks.{is_one_of}
use Rattle.cw_secnames.proofs.name_marks.all_positions.Given as goal

abbrev pub invariant-loop-index : goal.invariant-loop-index
invariant-loop-index l = (k : ℕ) → k < l.index → is_one_of k l.all.items ≡ true
