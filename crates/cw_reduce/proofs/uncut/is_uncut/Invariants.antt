-- Whether a section code comes is told by the answers that are left.
use Rattle.cw_reduce.proofs.Terms.{◌≡◌, length, begins_section_in}
use Rattle.cw_reduce.proofs.uncut.is_uncut.Given as goal

abbrev pub invariant-loop-token : goal.invariant-loop-token
invariant-loop-token l = begins_section_in l.lexer ≡ begins_section_in l.initial.lexer

abbrev pub decreases-loop-token : goal.decreases-loop-token
decreases-loop-token l = length l.lexer
