-- What was read so far, with the answers up to the section code, comes to what all of these give.
use Rattle.cw_reduce.proofs.Terms.{length, ◌^◌, until_section, StartsBelow, progress_over, Advancing}
use Rattle.cw_reduce.proofs.naming.read_until_section.Given as goal

abbrev pub invariant-loop-answer : goal.invariant-loop-answer
invariant-loop-answer g l = Advancing g.R.Watch.told l.context.flags.now (until_section l.initial.lexer)
    (until_section l.lexer) (progress_over l.initial.work l.initial.translator) l.initial.translator l.initial.work
    l.translator l.work × StartsBelow (2 ^ 32) l.lexer

abbrev pub decreases-loop-answer : goal.decreases-loop-answer
decreases-loop-answer g l = length l.lexer
