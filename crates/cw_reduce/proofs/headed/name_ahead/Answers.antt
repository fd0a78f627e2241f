-- A name that was read ahead is one answer.
use Rattle.cw_reduce.proofs.Terms.{advances-none}
use Rattle.cw_reduce.proofs.headed.name_ahead.Goals as goal

pub returns-in-None : goal.returns-in-None
returns-in-None g c = rw c.in-None.is (advances-none c.args.context.now.flags.now c.requires.translating)
