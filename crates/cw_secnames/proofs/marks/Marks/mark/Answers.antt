-- A name's marks, of one byte more at a time.
use Rattle.std.proofs.Common.{arith, refl}
use Rattle.cw_secnames.proofs.Marked.{keeps-all, enter-first, enter-more, enter-last, no-more}
use Rattle.cw_secnames.proofs.marks.Marks.mark.Goals as goal

pub returns-in_err-put_start-clause-keeps : goal.returns-in_err-put_start-clause-keeps
returns-in_err-put_start-clause-keeps c = grind (arith, keeps-all, no-more)

pub loop-count-init : goal.loop-count-init
loop-count-init c = grind (arith, enter-first)

pub loop-count-preserved : goal.loop-count-preserved
loop-count-preserved c = enter-more _ _ _ _ _ _ _ _ _ 0 c.loop-count.invariant c.loop-count-test.true
    c.next_mark-mark.ensures refl (λ mark k h. h) c.put_start-in-loop-count.ensures.keeps c.in_ok-put_start-2.ensures.ok

pub returns-in_err-put_start-2-clause-keeps : goal.returns-in_err-put_start-2-clause-keeps
returns-in_err-put_start-2-clause-keeps c = grind (arith, keeps-all, no-more)

pub returns-in_err-put-clause-keeps : goal.returns-in_err-put-clause-keeps
returns-in_err-put-clause-keeps c = grind (arith, keeps-all, no-more)

pub returns-clause-keeps : goal.returns-clause-keeps
returns-clause-keeps c = grind (arith, keeps-all, no-more)

pub returns-clause-ok : goal.returns-clause-ok
returns-clause-ok c = enter-last _ _ _ _ _ _ _ _ (let e = c.loop-count.invariant.shortest in
    omega (arith, e)) c.loop-count.invariant c.loop-count-test.false (λ mark k h. h) c.in_ok-put.ensures.ok
