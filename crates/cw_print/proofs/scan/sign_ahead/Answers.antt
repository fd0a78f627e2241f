-- No answer that is passed has the token of the number or of one above it, and that of the sign has it.
use Rattle.cw_print.proofs.Terms.{arith, PrintsSign}
use Rattle.cw_print.proofs.ScanLaws.{of-ahead, seeks-less, seeks-on}
use Rattle.cw_print.proofs.scan.sign_ahead.Goals as goal

pub loop-place-init : goal.loop-place-init
loop-place-init c = seeks-less _ _ _ _ _ c.requires.ahead c.requires.seeking

pub loop-place-preserved : goal.loop-place-preserved
loop-place-preserved c = seeks-on _ _ _ _ _ _ (omega arith) (omega arith) c.at-answer.ensures
    (λ m old new l g. (rw c.if-not-is_lesser.false at c.is_lesser.ensures) m old new l g) c.loop-place.invariant

pub returns-then-not-is_lesser-clause-sign : goal.returns-then-not-is_lesser-clause-sign
returns-then-not-is_lesser-clause-sign c = of-ahead (PrintsSign c.in_ok-sign.sign) _ _ _ _ _ (omega arith)
    (omega arith) c.at-answer.ensures c.in_ok-sign.ensures.sign c.loop-place.invariant

pub returns-then-not-is_lesser-clause-behind : goal.returns-then-not-is_lesser-clause-behind
returns-then-not-is_lesser-clause-behind c = seeks-on _ _ _ _ _ _ (omega arith) (omega arith) c.at-answer.ensures
    (λ m old new l g. c.in_ok-sign.ensures.others m old new (omega (arith, l)) g) c.loop-place.invariant
