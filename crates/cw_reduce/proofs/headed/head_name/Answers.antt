-- What a head makes, by its kind.
use Rattle.cw_reduce.proofs.Terms.{texts_in}
use Rattle.cw_reduce.proofs.NameSteps.{headless-advances}
use Rattle.cw_reduce.proofs.headed.head_name.Goals as goal

pub returns-in-Dead : goal.returns-in-Dead
returns-in-Dead g c = headless-advances c.args.context.now.flags.now
    (texts_in c.args.context.now) c.args.head c.in-Dead.is c.requires.translating
