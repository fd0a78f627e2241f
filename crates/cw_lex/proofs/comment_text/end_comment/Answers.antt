-- The two bytes that close a comment finish it, with a note if braces are open, and what is around it goes on.
use Rattle.std.proofs.Common.{ℕ, ◌+◌, List, ◌∷◌, length, drop, sym, ap, ◌∙◌, arith}
use Rattle.cw_lex.specs.declared.state.State.{State}
use Rattle.cw_rules.specs.{Answers.Finish, Answers.token_of, Tokens.comment_closed, model.Cuttings.bytes_at}
use Rattle.cw_lex.proofs.{Notes.one-note, Notes.one-inside, Steps.step-gives, Steps.token-here, States.ready-pop}
use Rattle.cw_lex.proofs.comment_text.end_comment.Goals as goal

pub returns-clause-gives : goal.returns-clause-gives
returns-clause-gives c =
    let s = c.args.state.now in
    let text : List ℕ = c.args.text.now in
    let comment = c.args.comment in
    let new : State = record {
      at = s.at + 2;
      part = s.part;
      comments = c.pop.new.self;
      pending = c.braces_note-state.result;
      clear = s.clear;
    } in
    let token = (λ i. token_of (sym c.in_hash_line.ensures i) (sym c.kind_of.ensures i) s.at 2 (bytes_at text s.at))
    ∙ token-here text s.at 2 c.kind_of.result c.in_hash_line.result _ c.requires.step.place c.token-token.ensures in
    step-gives text s new _ (comment_closed s.part comment (drop 1 s.comments) s.at (bytes_at text s.at))
    c.requires.step.quiet c.requires.step.place c.requires.found
    (λ i. Finish (token i) ∷ one-note text c.braces_note-state.result _ c.braces_note-state.ensures i)
    (omega arith) (omega (arith, c.requires.two)) (λ i. record { part = s.part; comments = c.pop.ensures.rest i })

pub returns-clause-ready : goal.returns-clause-ready
returns-clause-ready c = ready-pop c.args.text.now c.args.state.now c.args.comment c.pop.new.self
    c.braces_note-state.result (c.args.state.now.at + 2)
    c.requires.step.ready (c.requires.top ∙ ap (λ l. c.args.comment ∷ l) (sym c.pop.ensures.rest)) (omega arith)
    c.requires.two (one-inside (length c.args.text.now) c.braces_note-state.result _ c.braces_note-state.ensures)
