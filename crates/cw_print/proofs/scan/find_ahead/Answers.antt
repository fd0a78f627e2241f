-- Each answer that is passed has a token of another number, or none.
use Rattle.cw_print.proofs.Terms.{arith, common_steps}
use Rattle.cw_print.proofs.ScanLaws.{found-at, passes-none, passes-token, seeks-behind}
use Rattle.cw_print.proofs.scan.find_ahead.Goals.{in-Some+else-token-number, in_default}
use Rattle.cw_print.proofs.scan.find_ahead.Goals as goal

pub returns-then-token-number-clause-found : goal.returns-then-token-number-clause-found
returns-then-token-number-clause-found c = found-at _ _ _ _ _ _ _ (omega arith) c.at.ensures c.in-Some.ensures.token
    (omega arith) c.loop-place.invariant

pub returns-then-token-number-clause-seeking : goal.returns-then-token-number-clause-seeking
returns-then-token-number-clause-seeking c = seeks-behind _ _ _ _ _ _ _ (omega arith) c.at.ensures
    c.in-Some.ensures.token (omega arith) c.loop-place.invariant

pub loop-place-preserved : goal.loop-place-preserved
loop-place-preserved c = elim c.match-token_of.branch [
  | in-Some+else-token-number w ↦
      rw w.from-is (passes-token _ _ _ _ _ _ _ _ (omega arith) c.at.ensures w.in-Some.ensures.token (omega arith)
      (grind (arith, w.max-from.ensures))
      (λ m l fits. grind (arith, l, fits, w.max-from.ensures, w.saturating_add.ensures)) c.loop-place.invariant)
  | in_default w ↦
      rw w.from-is (passes-none _ _ _ _ _ _ (omega arith) c.at.ensures w.in_default.ensures.none c.loop-place.invariant)
]

pub loop-place-init : goal.loop-place-init
loop-place-init c = grind (arith, common_steps)
