-- A bar finishes inner C text of a comment, whose own text goes on behind it.
use Rattle.std.proofs.Common.{ℕ, ◌+◌, List, false, drop, sym, ap, ◌∙◌, arith}
use Rattle.cw_lex.specs.declared.state.State.{State}
use Rattle.cw_rules.specs.declared.tokens.TokKind.TheVariants as kinds
use Rattle.cw_rules.specs.{Answers.Finish, Answers.token_of, Tokens.behind_inner, model.Cuttings.bytes_at}
use Rattle.cw_lex.proofs.{Steps.one-gives, Steps.token-here, States.ready-top, States.top-within}
use Rattle.cw_lex.proofs.comment_text.end_comment_inner.Goals as goal

pub returns-clause-gives : goal.returns-clause-gives
returns-clause-gives c =
    let s = c.args.state.now in
    let text : List ℕ = c.args.text.now in
    let new : State = record {
      at = s.at + 1;
      part = c.passed-state.result;
      comments = c.set_top.new.self;
      pending = s.pending;
      clear = s.clear;
    } in
    one-gives text s new _ _ 0
    (behind_inner s.part s.comments) c.requires.step.quiet c.requires.step.place c.requires.found (ap Finish
    ((λ i. token_of (sym c.in_hash_line.ensures i) kinds.InnerText s.at 1 (bytes_at text s.at)) ∙ token-here text s.at 1
    kinds.InnerText c.in_hash_line.result _ c.requires.step.place c.token-token.ensures)) c.requires.step.quiet
    (omega arith) (omega arith) ((λ i. record { part = c.passed-state.ensures.value i; comments = c.set_top.ensures i })
    ∙ sym (ap (behind_inner s.part) c.requires.top))

pub returns-clause-ready : goal.returns-clause-ready
returns-clause-ready c =
    let s = c.args.state.now in
    ready-top c.args.text.now s c.passed-state.result c.args.comment (record {
      start = c.args.comment.start;
      long = c.args.comment.long;
      braces = c.args.comment.braces;
      inner = false;
    }) c.set_top.new.self s.pending (s.at + 1) c.requires.step.ready c.requires.top c.passed-state.ensures.code (omega (
      arith,
      top-within s.at s.comments c.args.comment (drop 1 s.comments) c.requires.step.ready.braces c.requires.top,
    )) (omega (arith, c.requires.step.ready.depth)) c.set_top.ensures (omega arith)
    (omega arith) c.requires.step.ready.notes
