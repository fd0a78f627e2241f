-- The words so far and those that are left are all but the first.
use Rattle.std.proofs.Common.{◌≡◌, ◌++◌, drop}
use Rattle.cw_input.proofs.command.words_behind.Given as goal

abbrev pub invariant-loop-i : goal.invariant-loop-i
invariant-loop-i l = l.behind ++ drop l.i l.words ≡ drop 1 l.words
