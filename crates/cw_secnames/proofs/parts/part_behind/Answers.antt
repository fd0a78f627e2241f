-- What stands from behind a bar up to the bar that ends it is the next part.
use Rattle.cw_secnames.proofs.PartLaws.{next-part}
use Rattle.cw_secnames.proofs.parts.part_behind.Goals as goal

pub returns-in-Some-clause-some : goal.returns-in-Some-clause-some
returns-in-Some-clause-some c = next-part c.args.text.now c.args.bar c.in-Some.end c.requires.within c.requires.bar
    c.in-Some.ensures.value c.in-Some.ensures.order c.in-Some.ensures.within
