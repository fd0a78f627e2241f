-- An identifier takes its bytes, and then the text goes on in its part.
use Rattle.std.proofs.Common.{ℕ, ◌+◌, List, refl, sym, ap, ◌∙◌, arith}
use Rattle.cw_rules.specs.Answers.{Seen, Token, token_of}
use Rattle.cw_rules.specs.{Tokens.in_hash_line, Tokens.moved, model.Cuttings.bytes_at}
use Rattle.cw_rules.specs.declared.tokens.TokKind.TheVariants as kinds
use Rattle.cw_lex.specs.{model.Coming.where_of, declared.state.State.State}
use Rattle.cw_lex.proofs.{Steps.one-gives, Steps.token-here, Steps.AllWithin-more, States.depth-part}
use Rattle.cw_lex.proofs.code_text.give_word.Goals as goal

pub returns-clause-gives : goal.returns-clause-gives
returns-clause-gives c =
    let s = c.args.state.now in
    let text : List ℕ = c.args.text.now in
    let bytes = bytes_at text s.at in
    let new : State = record {
      at = s.at + c.args.size;
      part = c.args.part;
      comments = s.comments;
      pending = s.pending;
      clear = s.clear;
    } in
    let place = c.requires.step.place in
    let token = (λ i. token_of (in_hash_line s.part) kinds.Identifier s.at (sym c.requires.size i) bytes)
    ∙ (λ i. token_of (sym c.in_hash_line.ensures i) kinds.Identifier s.at c.args.size bytes)
    ∙ token-here text s.at c.args.size kinds.Identifier _ _ place c.token-token.ensures in
    one-gives text s new _ _ _ (moved (where_of s) c.args.part) c.requires.step.quiet place c.requires.found
    (ap (λ (t : Seen). Token (record t { directive = c.args.directive })) token) c.requires.step.quiet
    (omega (arith, c.requires.size, c.requires.some)) c.requires.within refl

pub returns-clause-ready : goal.returns-clause-ready
returns-clause-ready c =
    let ready = c.requires.step.ready in
    record {
      within = c.requires.within;
      depth = depth-part c.args.state.now.part c.args.part c.args.state.now.comments ready.depth;
      nested = c.requires.nested;
      braces = AllWithin-more c.args.state.now.at _ c.args.state.now.comments (omega arith) ready.braces;
      notes = ready.notes;
      clear = ready.clear;
    }
