-- One name more is whole, or all are.
use Rattle.cw_index.proofs.Terms.{All, subst, arith, take_all, All-more, IsWholeName}
use Rattle.cw_index.proofs.whole.are_whole.Goals as goal

pub loop-one-preserved : goal.loop-one-preserved
loop-one-preserved c = All-more (IsWholeName c.args.text.now) c.args.listed.now c.loop-one.one-index _
    c.loop-one-test.true c.loop-one.invariant (c.is_whole_name.ensures.whole c.if-not-is_whole_name.false)

pub returns-clause-whole : goal.returns-clause-whole
returns-clause-whole c = λ _. subst (All (IsWholeName c.args.text.now))
    (take_all c.loop-one.one-index c.args.listed.now (omega arith)) c.loop-one.invariant
