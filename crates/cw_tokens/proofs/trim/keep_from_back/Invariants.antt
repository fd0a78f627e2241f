-- The items that stay so far are those that trimming from the back leaves of the items so far.
use Rattle.cw_tokens.proofs.Trimming.{KeepsBack}
use Rattle.cw_tokens.proofs.trim.keep_from_back.Given as goal

abbrev pub invariant-loop-i : goal.invariant-loop-i
invariant-loop-i l = KeepsBack l.initial.items l.items l.i l.kept l.ends
