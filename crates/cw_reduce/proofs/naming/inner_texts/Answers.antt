-- One inner text more is read, and behind its bar come those that are left.
use Rattle.cw_reduce.proofs.Terms.{◌+◌, ap, arith, parts_at, parts_of_name, text_answers, texts_answers}
use Rattle.cw_reduce.proofs.Terms.{advancing-begun, advancing-ended, advancing-next, advancing-stopped}
use Rattle.cw_reduce.proofs.NameSteps.{all_part_answers, part_answers, part-next}
use Rattle.cw_reduce.proofs.naming.inner_texts.Goals as goal

pub loop-span-init : goal.loop-span-init
loop-span-init g c = (
  advancing-begun c.args.context.now.flags.now (texts_answers (parts_of_name c.args.text.now)) c.requires.translating,
  omega arith,
)

pub loop-span-preserved : goal.loop-span-preserved
loop-span-preserved g c = (
  advancing-next (text_answers (part_answers c.args.text.now c.in-Some.span)) (all_part_answers c.args.text.now
      (parts_at c.args.text.now (c.in-Some.span.end + 1))) c.loop-span.invariant.0 (part-next c.args.text.now
      c.loop-span.from c.in-Some.span c.in-Some.ensures.some) c.in_ok-inner_text-in-Some.ensures,
  omega (arith, c.in-Some.ensures.some.within),
)

pub returns-in_err-inner_text-in-Some : goal.returns-in_err-inner_text-in-Some
returns-in_err-inner_text-in-Some g c = advancing-stopped (text_answers (part_answers c.args.text.now c.in-Some.span))
    (all_part_answers c.args.text.now (parts_at c.args.text.now (c.in-Some.span.end + 1))) c.loop-span.invariant.0
    (part-next c.args.text.now c.loop-span.from c.in-Some.span c.in-Some.ensures.some)
    c.in_err-inner_text-in-Some.ensures c.from_residual.ensures.1

pub returns-in-None : goal.returns-in-None
returns-in-None g c = advancing-ended tt c.loop-span.invariant.0
    (ap (all_part_answers c.args.text.now) c.in-None.ensures.none)
