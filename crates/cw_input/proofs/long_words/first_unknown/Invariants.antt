-- The first such word among those that are left is the first of the line.
use Rattle.std.proofs.Common.{◌≡◌, drop}
use Rattle.cw_input.specs.LongWords.{first_unknown}
use Rattle.cw_input.proofs.long_words.first_unknown.Given as goal

abbrev pub invariant-loop-i : goal.invariant-loop-i
invariant-loop-i l = first_unknown (drop l.i l.words) ≡ first_unknown l.words
