-- The items that stay so far, with what trimming from the front leaves of the rest, are what it leaves of all.
use Rattle.cw_tokens.proofs.Trimming.{KeepsFront}
use Rattle.cw_tokens.proofs.trim.keep_from_front.Given as goal

abbrev pub invariant-loop-i : goal.invariant-loop-i
invariant-loop-i l = KeepsFront l.initial.items l.items l.i l.kept l.begins
