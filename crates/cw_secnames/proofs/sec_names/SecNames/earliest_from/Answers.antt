-- The least position, of one position more at a time.
use Rattle.std.proofs.Common.{take, arith}
use Rattle.std.proofs.lemmas.List.{take_all}
use Rattle.cw_secnames.specs.model.Asked.{passes}
use Rattle.cw_secnames.proofs.Nearest.{least-next, least-first, least-within}
use Rattle.cw_secnames.proofs.sec_names.SecNames.earliest_from.Goals as goal

pub loop-index-preserved : goal.loop-index-preserved
loop-index-preserved c = grind (arith, least-next)

pub returns-clause-value : goal.returns-clause-value
returns-clause-value c = grind (arith, take_all, least-first)

pub returns-clause-within : goal.returns-clause-within
returns-clause-within c = least-within (passes c.args.asked c.args.text.now) c.args.self.now c.args.from
    (take c.loop-index.index-index c.args.near.now) _ c.loop-index.invariant
