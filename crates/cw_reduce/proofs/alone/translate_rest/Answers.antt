-- Where nothing comes behind the scrap, the text ends with it.
use Rattle.cw_reduce.proofs.alone.translate_rest.Goals as goal

pub returns-then-stays_alone-clause-text : goal.returns-then-stays_alone-clause-text
returns-then-stays_alone-clause-text g c =
    let gives = rw (c.is_end.ensures c.if-is_end.true) at c.next-next.ensures.gives in
    rw gives.0 (c.end_alone.ensures c.args.context.now.flags.now)
