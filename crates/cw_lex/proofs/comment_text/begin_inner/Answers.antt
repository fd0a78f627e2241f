-- A bar in a comment's text is answered as the beginning of inner C text of that comment.
use Rattle.std.proofs.Common.{ℕ, ◌+◌, List, true, drop, refl, sym, ap, ◌∙◌, arith}
use Rattle.cw_lex.specs.declared.state.State.{State}
use Rattle.cw_rules.specs.declared.tokens.TokKind.TheVariants as kinds
use Rattle.cw_rules.specs.{Answers.Begin, Answers.token_of, model.Cuttings.bytes_at}
use Rattle.cw_lex.proofs.{Steps.one-gives, Steps.token-here, States.ready-top, States.top-within}
use Rattle.cw_lex.proofs.comment_text.begin_inner.Goals as goal

pub returns-clause-gives : goal.returns-clause-gives
returns-clause-gives c =
    let s = c.args.state.now in
    let text : List ℕ = c.args.text.now in
    let new : State = record {
      at = s.at + 1;
      part = s.part;
      comments = c.set_top.new.self;
      pending = s.pending;
      clear = s.clear;
    } in
    one-gives text s new _ _ 0 _ c.requires.step.quiet c.requires.step.place c.requires.found
    (ap Begin ((λ i. token_of (sym c.in_hash_line.ensures i) kinds.InnerText s.at 1 (bytes_at text s.at))
    ∙ token-here text s.at 1 kinds.InnerText c.in_hash_line.result _ c.requires.step.place c.token-token.ensures))
    c.requires.step.quiet (omega arith) (omega arith) (λ i. record { part = s.part; comments = c.set_top.ensures i })

pub returns-clause-ready : goal.returns-clause-ready
returns-clause-ready c =
    let s = c.args.state.now in
    ready-top c.args.text.now s s.part c.args.comment (record {
      start = c.args.comment.start;
      long = c.args.comment.long;
      braces = c.args.comment.braces;
      inner = true;
    }) c.set_top.new.self s.pending (s.at + 1) c.requires.step.ready c.requires.top refl (omega (
      arith,
      top-within s.at s.comments c.args.comment (drop 1 s.comments) c.requires.step.ready.braces c.requires.top,
    )) (omega (arith, c.requires.depth)) c.set_top.ensures (omega arith) (omega arith) c.requires.step.ready.notes
