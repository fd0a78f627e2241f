-- The definitions so far print nothing.
use Rattle.cw_texts.proofs.Terms.{◌≡◌, length, not_silent}
use Rattle.cw_texts.proofs.definitions.Definitions.next_printed.Given as goal

abbrev pub invariant-silent : goal.invariant-silent
invariant-silent l = not_silent l.fn.self ≡ not_silent l.self

abbrev pub decreases-silent : goal.decreases-silent
decreases-silent l = length l.self
