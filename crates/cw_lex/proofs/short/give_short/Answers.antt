-- An identifier, constant or sign takes its bytes, and calm C text goes on as it did.
use Rattle.std.proofs.Common.{ℕ, ◌+◌, ◌-◌, ◌<◌, List, length, drop, sym, ap, ◌∙◌, arith}
use Rattle.cw_lex.specs.{declared.state.State.State, model.Coming.where_of}
use Rattle.cw_rules.specs.{Answers.Token, Answers.token_of, Tokens.moved, Tokens.passed, Tokens.in_hash_line}
use Rattle.cw_lex.proofs.{Calm.calm-part, Steps.one-gives, Steps.token-here, Steps.AllWithin-more}
use Rattle.cw_lex.proofs.short.give_short.Goals as goal

pub returns-clause-gives : goal.returns-clause-gives
returns-clause-gives c =
    let s = c.args.state.now in
    let text : List ℕ = c.args.text.now in
    let short = c.args.short in
    let settled = calm-part s.part s.comments c.requires.calm.text in
    let new : State = record {
      at = s.at + short.size;
      part = s.part;
      comments = s.comments;
      pending = s.pending;
      clear = s.clear;
    } in
    let place : s.at < length text = omega (arith, c.requires.short.some, c.requires.short.within) in
    let token = c.token-token.ensures ∙ (λ i. token_of (sym settled.hash_line i) short.kind s.at short.size
    (drop s.at text)) in
    one-gives text s new _ _ (short.size - 1)
    (moved (where_of s) (passed s.part)) c.requires.calm.quiet place c.requires.short.found
    (ap Token (token-here text s.at short.size short.kind (in_hash_line s.part) _ place token)) c.requires.calm.quiet
    (omega (arith, c.requires.short.some)) c.requires.short.within (λ i. moved (where_of s) (sym settled.same i))

pub returns-clause-ready : goal.returns-clause-ready
returns-clause-ready c =
    let s = c.args.state.now in
    let ready = c.requires.ready in
    record {
      within = c.requires.short.within;
      depth = ready.depth;
      nested = ready.nested;
      braces = AllWithin-more s.at _ s.comments (omega arith) ready.braces;
      notes = ready.notes;
      clear = ready.clear;
    }
