-- A token that is cut takes its bytes; its notes follow, and then the text goes on in its part.
use Rattle.std.proofs.Common.{ℕ, ◌+◌, List, ◌∷◌, refl, sym, ap, ◌∙◌, arith}
use Rattle.cw_rules.specs.Answers.{Token, note_answers, token_of}
use Rattle.cw_rules.specs.{Pending.pending_notes, Tokens.one, Tokens.moved, model.Cuttings.bytes_at}
use Rattle.cw_rules.specs.{model.Cuttings.cut_of}
use Rattle.cw_lex.specs.{model.Coming.where_of, declared.state.State.State}
use Rattle.cw_lex.proofs.{Steps.step-gives, Steps.bytes-here, Steps.AllWithin-more, States.depth-part}
use Rattle.cw_lex.proofs.giving.give.Goals as goal

pub returns-clause-gives : goal.returns-clause-gives
returns-clause-gives c =
    let s = c.args.state.now in
    let text : List ℕ = c.args.text.now in
    let cut = c.args.cut in
    let new : State = record {
      at = s.at + cut.size;
      part = c.args.part;
      comments = s.comments;
      pending = cut.pending;
      clear = s.clear;
    } in
    let f = one c.args.hash_line (moved (where_of s) c.args.part) s.at (bytes_at text s.at) (cut_of text cut) in
    let token = ap (λ bs. token_of c.args.hash_line cut.kind s.at cut.size bs)
    (sym (bytes-here text s.at c.requires.step.place)) ∙ sym c.token-token.ensures in
    step-gives text s new _ f c.requires.step.quiet c.requires.step.place c.requires.found
    (ap (λ t. Token t ∷ note_answers (pending_notes text cut.pending)) token)
    (omega (arith, c.requires.cut.some)) (omega (arith, c.requires.cut.within)) refl

pub returns-clause-ready : goal.returns-clause-ready
returns-clause-ready c =
    let ready = c.requires.step.ready in
    record {
      within = c.requires.cut.within;
      depth = depth-part c.args.state.now.part c.args.part c.args.state.now.comments ready.depth;
      nested = c.requires.nested;
      braces = AllWithin-more c.args.state.now.at _ c.args.state.now.comments (omega arith) ready.braces;
      notes = c.requires.cut.inside;
      clear = ready.clear;
    }
