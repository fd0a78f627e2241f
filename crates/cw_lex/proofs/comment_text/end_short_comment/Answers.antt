-- A line's end finishes a short comment and isn't taken: what it ends around the comment comes next.
use Rattle.std.proofs.Common.{ℕ, ◌≡◌, List, [], ◌∷◌, true, drop, refl, sym, ap, ◌∙◌, arith}
use Rattle.cw_lex.specs.{declared.state.State.State, Lexing.last_at, model.Coming.found_at}
use Rattle.cw_rules.specs.Answers.{seen, before, Finish, note_answers, token_of}
use Rattle.cw_rules.specs.{Pending.pending_notes, Tokens.line_end, Tokens.is_code}
use Rattle.cw_lex.proofs.{Notes.one-note, Notes.one-inside, Steps.zero-gives, Lines.found-newline}
use Rattle.cw_lex.proofs.States.{ready-pop, top-nested}
use Rattle.std.proofs.lemmas.Bool.Decides.{nat_tests}
use Rattle.cw_lex.proofs.comment_text.end_short_comment.Goals as goal

pub returns-clause-gives : goal.returns-clause-gives
returns-clause-gives c =
    let s = c.args.state.now in
    let text : List ℕ = c.args.text.now in
    let comment = c.args.comment in
    let rest = drop 1 s.comments in
    let new : State = record {
      at = s.at;
      part = s.part;
      comments = c.pop.new.self;
      pending = c.braces_note-state.result;
      clear = s.clear;
    } in
    let token = (λ i. token_of (sym c.in_hash_line.ensures i) (sym c.kind_of.ensures i) s.at 0 [])
    ∙ sym c.token-token.ensures in
    let nested : is_code s.part rest ≡ true = grind (arith, nat_tests, top-nested) in
    zero-gives text s new _ c.requires.step.quiet c.requires.step.place refl (c.requires.found
    ∙ (λ i. before (Finish (token i) ∷ one-note text c.braces_note-state.result _ c.braces_note-state.ensures i)
    (line_end s.part rest (last_at text s.at) s.at)) ∙ ap (before (Finish (seen c.token-token.result) ∷ note_answers
    (pending_notes text c.braces_note-state.result))) (sym (found-newline text s.part rest s.at c.requires.newline
    nested) ∙ ap (λ cs. found_at text (record { part = s.part; comments = cs }) s.at) (sym c.pop.ensures.rest)))

pub returns-clause-ready : goal.returns-clause-ready
returns-clause-ready c = grind (arith, ready-pop, one-inside)
