-- The two bytes that open a comment are answered as its beginning, and it is the innermost from there on.
use Rattle.std.proofs.Common.{ℕ, ◌+◌, List, ◌∷◌, false, refl, sym, ap, ◌∙◌, arith}
use Rattle.cw_rules.specs.{declared.parts.Opened.Opened, Tokens.passed, model.Cuttings.bytes_at}
use Rattle.cw_lex.specs.declared.state.State.{State}
use Rattle.cw_rules.specs.Answers.{Begin, token_of}
use Rattle.cw_lex.proofs.{Steps.one-gives, Steps.token-here, States.ready-push}
use Rattle.cw_lex.proofs.comment_text.begin_comment.Goals as goal

pub returns-clause-gives : goal.returns-clause-gives
returns-clause-gives c =
    let s = c.args.state.now in
    let text : List ℕ = c.args.text.now in
    let new : State = record {
      at = s.at + 2;
      part = c.passed-state.result;
      comments = c.push.new.self;
      pending = s.pending;
      clear = s.clear;
    } in
    let opened : Opened = record { start = s.at; long = c.args.long; braces = 0; inner = false } in
    one-gives text s new _ _ 1 (record { part = passed s.part; comments = opened ∷ s.comments }) c.requires.step.quiet
    c.requires.step.place c.requires.found (ap Begin ((λ i. token_of (sym c.in_hash_line.ensures i)
    (sym c.kind_of.ensures i) s.at 2 (bytes_at text s.at)) ∙ token-here text s.at 2 c.kind_of.result
    c.in_hash_line.result _ c.requires.step.place c.token-token.ensures)) c.requires.step.quiet (omega arith)
    (omega (arith, c.requires.two)) (λ i. record { part = c.passed-state.ensures.value i; comments = c.push.ensures i })

pub returns-clause-ready : goal.returns-clause-ready
returns-clause-ready c =
    let s = c.args.state.now in
    ready-push c.args.text.now s c.passed-state.result (record
    { start = s.at; long = c.args.long; braces = 0; inner = false }) c.push.new.self (s.at + 2) c.requires.step.ready
    c.requires.code c.passed-state.ensures.code refl refl c.push.ensures (omega arith) c.requires.two
