-- What was read so far, with the inner texts from this place on, comes to all of the name's inner texts.
use Rattle.cw_reduce.proofs.Terms.{◌-◌, ◌≤◌, length, parts_at, parts_of_name, texts_answers, progress_over, Advancing}
use Rattle.cw_reduce.proofs.NameSteps.{all_part_answers}
use Rattle.cw_reduce.proofs.naming.inner_texts.Given as goal

abbrev pub invariant-loop-span : goal.invariant-loop-span
invariant-loop-span g l = Advancing g.R.Watch.told l.context.flags.now (texts_answers (parts_of_name l.text))
    (all_part_answers l.text (parts_at l.text l.from)) (progress_over l.initial.work l.initial.translator)
    l.initial.translator l.initial.work l.translator l.work × (l.from ≤ length l.text)

abbrev pub decreases-loop-span : goal.decreases-loop-span
decreases-loop-span g l = length l.text - l.from
