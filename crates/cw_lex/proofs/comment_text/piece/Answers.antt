-- A piece of a comment takes the bytes up to where it stops; its notes follow, and the open braces are kept.
use Rattle.std.proofs.Common.{ℕ, ◌≡◌, ◌≤◌, ◌<◌, ◌-◌, List, ◌∷◌, false, drop, refl, sym, ◌∙◌, arith}
use Rattle.cw_lex.specs.declared.state.State.{State}
use Rattle.cw_rules.specs.Answers.{Token, note_answers, token_of}
use Rattle.cw_rules.specs.{Pending.no_notes, Pending.body_notes, Bodies.ended, declared.bodies.Inside.Inside}
use Rattle.cw_lex.proofs.{Steps.step-gives, States.ready-top, States.top-within}
use Rattle.cw_lex.proofs.Pieces.{piece_found, piece-found, piece-some}
use Rattle.std.proofs.lemmas.Bool.Decides.{nat_tests}
use Rattle.cw_rules.specs.declared.tokens.TokKind.TheVariants as kinds
use Rattle.cw_rules.specs.declared.bodies.Body.TheVariants as bodies
use Rattle.cw_lex.proofs.comment_text.piece.Goals as goal

pub returns-clause-gives : goal.returns-clause-gives
returns-clause-gives c =
    let s = c.args.state.now in
    let text : List ℕ = c.args.text.now in
    let comment = c.args.comment in
    let rest = drop 1 s.comments in
    let inside : Inside = record {
      body = bodies.Piece comment.long c.args.deep;
      braces = comment.braces;
      place = s.at;
      before = 0;
      along = false;
    } in
    let end = c.walk-walked.result.stop in
    let is_end : end ≡ ended inside (drop s.at text) = c.walk-walked.ensures.stop in
    let some : s.at < end.place = piece-some text inside end c.requires.step.place c.requires.goes is_end in
    let new : State = record {
      at = end.place;
      part = s.part;
      comments = c.set_top.new.self;
      pending = record no_notes { body = c.walk-walked.result.notes };
      clear = s.clear;
    } in
    let f = piece_found s.part rest comment s.at inside end (drop s.at text) in
    step-gives text s new _ f c.requires.step.quiet c.requires.step.place (c.requires.found
    ∙ piece-found text s.part s.comments rest comment s.at c.args.deep end c.requires.step.place c.requires.top
    c.requires.deep c.requires.text is_end) ((λ i. Token (token_of (sym c.in_hash_line.ensures i) kinds.Text s.at
    (end.place - s.at) (drop s.at text)) ∷ note_answers (sym c.walk-walked.ensures.notes i))
    ∙ (λ i. Token (sym c.token-token.ensures i) ∷ note_answers (body_notes text c.walk-walked.result.notes)))
    (omega arith) c.walk-walked.ensures.within (λ i. record { part = s.part; comments = c.set_top.ensures i })

pub returns-clause-ready : goal.returns-clause-ready
returns-clause-ready c =
    let s = c.args.state.now in
    let comment = c.args.comment in
    let end = c.walk-walked.result.stop in
    let braces : comment.braces ≤ s.at = grind (arith, nat_tests, top-within) in
    ready-top c.args.text.now s s.part comment (record {
      start = comment.start;
      long = comment.long;
      braces = end.braces;
      inner = false;
    }) c.set_top.new.self _ end.place c.requires.step.ready c.requires.top refl c.walk-walked.ensures.braces
    (omega (arith, c.requires.step.ready.depth)) c.set_top.ensures c.walk-walked.ensures.from
    c.walk-walked.ensures.within c.walk-walked.ensures.inside
