-- What was read so far, with the answers that are left and the texts of their names, comes to what all give.
use Rattle.cw_reduce.proofs.Terms.{length, ◌^◌, Stays, with_texts, StartsBelow, progress_over, texts_in, Advancing}
use Rattle.cw_reduce.proofs.naming.read_named.Given as goal

abbrev pub invariant-loop-translator : goal.invariant-loop-translator
invariant-loop-translator g l = Advancing g.R.Watch.told l.context.flags.now
    (with_texts (texts_in l.context) l.initial.reader.coming) (with_texts (texts_in l.context) l.reader.coming)
    (progress_over l.initial.work l.initial.translator) l.initial.translator l.initial.work l.translator l.work
    × StartsBelow (2 ^ 32) l.reader.coming × Stays l.initial.reader.all l.reader.all

abbrev pub decreases-loop-translator : goal.decreases-loop-translator
decreases-loop-translator g l = length l.reader.coming
