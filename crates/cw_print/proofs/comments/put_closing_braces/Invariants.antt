-- The braces put so far, with those that the open ones still want, are all that close the comment.
use Rattle.cw_print.proofs.Terms.{◌≡◌, ◌++◌, closing_braces}
use Rattle.cw_print.proofs.comments.put_closing_braces.Given as goal

abbrev pub invariant-loop-open : goal.invariant-loop-open
invariant-loop-open l = l.out ++ closing_braces l.open ≡ l.initial.out ++ closing_braces l.braces

abbrev pub decreases-loop-open : goal.decreases-loop-open
decreases-loop-open l = l.open
