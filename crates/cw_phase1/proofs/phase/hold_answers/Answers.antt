-- Each answer keeps what holds while the answers come.
use Rattle.cw_phase1.proofs.Terms.{refl, subst, arith, seen, held_of}
use Rattle.cw_phase1.proofs.Underway.{Underway, start, is-token, section-fits, ready-settles, token-step, begin-step}
use Rattle.cw_phase1.proofs.Underway.{finish-step, note-step, scanned, waiting-kept}
use Rattle.cw_phase1.proofs.phase.hold_answers.Goals as goal

pub answers-init : goal.answers-init
answers-init c = grind (arith, start)

pub token-requires-clause-token : goal.token-requires-clause-token
token-requires-clause-token c = is-token _ _ _ _ _ _ (subst (Underway _ _ _ _) c.in-Token.ensures c.answers.invariant)

pub token-requires-clause-ready : goal.token-requires-clause-ready
token-requires-clause-ready c = ready-settles _ (held_of c.answers.held) c.answers.invariant.ready

pub token-requires-clause-section : goal.token-requires-clause-section
token-requires-clause-section c = section-fits _ _ _ (held_of c.answers.held) (seen c.in-Token.token) c.next.new.self
    (subst (Underway c.args.web.now.lines _ _ (held_of c.answers.held)) c.in-Token.ensures c.answers.invariant)

pub begin-requires : goal.begin-requires
begin-requires c = ready-settles c.answers.invariant.from (held_of c.answers.held) c.answers.invariant.ready

pub finish-requires : goal.finish-requires
finish-requires c = ready-settles c.answers.invariant.from (held_of c.answers.held) c.answers.invariant.ready

pub finish-requires-2 : goal.finish-requires-2
finish-requires-2 c = ready-settles c.answers.invariant.from (held_of c.answers.held) c.answers.invariant.ready

pub answers-preserved-in-Continue-1 : goal.answers-preserved-in-Continue-1
answers-preserved-in-Continue-1 c = grind (arith, token-step, waiting-kept)

pub answers-preserved-in-Continue-branch-2 : goal.answers-preserved-in-Continue-branch-2
answers-preserved-in-Continue-branch-2 c = grind (arith, begin-step)

pub answers-preserved-in-Continue-branch-3 : goal.answers-preserved-in-Continue-branch-3
answers-preserved-in-Continue-branch-3 c = grind (arith, finish-step)

pub answers-preserved : goal.answers-preserved
answers-preserved c = grind (arith, note-step)

pub returns : goal.returns
returns c = scanned _ _ c.over-lexer.result _ _ (subst (Underway _ _ _ _) c.in-End.ensures.0 c.answers.invariant)
    c.in_ok-finish.ensures refl (grind arith) (grind arith)
