-- The words so far and those that are left are all words.
use Rattle.std.proofs.Common.{◌≡◌, ◌++◌, drop}
use Rattle.cw_run.specs.Program.{words_of}
use Rattle.cw_run.proofs.words.words_behind.Given as goal

abbrev pub invariant-loop-i : goal.invariant-loop-i
invariant-loop-i l = l.words ++ drop l.i l.line ≡ words_of l.line
