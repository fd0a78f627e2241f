-- What is put so far, with what the rest of the piece prints from its open braces on, is the piece.
use Rattle.cw_print.proofs.Terms.{length, Prints}
use Rattle.cw_print.proofs.comments.put_piece.Given as goal

abbrev pub invariant-loop-two : goal.invariant-loop-two
invariant-loop-two l = Prints l.fn.out l.text l.braces l.out l.rest l.open

abbrev pub decreases-loop-two : goal.decreases-loop-two
decreases-loop-two l = length l.rest
