-- A string takes its bytes; its notes follow, and then the C text goes on as it did.
use Rattle.std.proofs.Common.{◌≡◌, ℕ, ◌+◌, ◌<◌, List, ◌∷◌, length, drop, sym, ap, ◌∙◌, arith}
use Rattle.cw_rules.specs.Answers.{Token, note_answers, token_of}
use Rattle.cw_rules.specs.{Pending.pending_notes, Prefixes.prefix_size, model.Cuttings.bytes_at, model.Cuttings.cut_of}
use Rattle.cw_rules.specs.declared.tokens.TokKind.TheVariants.{Quoted}
use Rattle.cw_rules.specs.Tokens.{one, moved, passed, string, in_hash_line}
use Rattle.cw_lex.specs.{model.Coming.where_of, declared.state.State.State}
use Rattle.cw_lex.proofs.Steps.{bytes-here, step-gives, token-here, AllWithin-more}
use Rattle.cw_lex.proofs.States.{depth-part, nested-part}
use Rattle.std.proofs.lemmas.Bool.Decides.{nat_tests}
use Rattle.cw_lex.proofs.giving.give_string.Goals as goal

pub returns-clause-gives : goal.returns-clause-gives
returns-clause-gives c =
    let s = c.args.state.now in
    let text : List ℕ = c.args.text.now in
    let cut = c.string-cut.result in
    let new : State = record {
      at = s.at + cut.size;
      part = c.pass.new.self;
      comments = s.comments;
      pending = cut.pending;
      clear = s.clear;
    } in
    let next = moved (where_of s) (passed s.part) in
    let bytes = bytes_at text s.at in
    let place : s.at < length text = c.requires.string.0 in
    let prefix : c.prefix_size-opening.result ≡ prefix_size bytes = grind (arith, nat_tests, bytes-here) in
    let found = c.requires.string.1
    ∙ ap (λ n. one (in_hash_line s.part) next s.at bytes (string Quoted (n + 1) c.args.quote s.at bytes)) (sym prefix)
    ∙ ap (one (in_hash_line s.part) next s.at bytes) (sym c.string-cut.ensures.same) in
    let token = c.token-token.ensures ∙ (λ i. token_of (c.in_hash_line.ensures i) cut.kind s.at cut.size
    (drop s.at text)) in
    step-gives text s new _ (one (in_hash_line s.part) next s.at bytes (cut_of text cut)) c.requires.quiet place found
    (ap (λ t. Token t ∷ note_answers (pending_notes text cut.pending)) (token-here text s.at cut.size cut.kind
    (in_hash_line s.part) _ place token)) (omega (arith, c.string-cut.ensures.fits.some))
    c.string-cut.ensures.fits.within (λ i. moved (where_of s) (c.pass.ensures.value i))

pub returns-clause-ready : goal.returns-clause-ready
returns-clause-ready c =
    let s = c.args.state.now in
    let ready = c.requires.ready in
    record {
      within = c.string-cut.ensures.fits.within;
      depth = depth-part s.part c.pass.new.self s.comments ready.depth;
      nested = nested-part s.part c.pass.new.self s.comments c.pass.ensures.code ready.nested;
      braces = AllWithin-more s.at _ s.comments (omega arith) ready.braces;
      notes = c.string-cut.ensures.fits.inside;
      clear = ready.clear;
    }
