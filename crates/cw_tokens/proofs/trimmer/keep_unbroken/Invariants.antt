-- The items kept so far, with those of the rest that are no breaks, are what stays of the whole gap.
use Rattle.cw_tokens.proofs.Standing.{KeepsUnbroken}
use Rattle.cw_tokens.proofs.trimmer.keep_unbroken.Given as goal

abbrev pub invariant-loop-i : goal.invariant-loop-i
invariant-loop-i l = KeepsUnbroken l.initial.items l.items l.gap l.i l.kept
