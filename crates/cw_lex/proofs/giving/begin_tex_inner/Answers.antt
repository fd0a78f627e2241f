-- A bar in TeX text is answered as the beginning of inner C text.
use Rattle.std.proofs.Common.{ℕ, ◌+◌, List, false, refl, ap, arith}
use Rattle.cw_rules.specs.declared.parts.Part.TheVariants as parts
use Rattle.cw_lex.specs.{declared.state.State.State, model.Coming.where_of}
use Rattle.cw_rules.specs.declared.tokens.TokKind.TheVariants as kinds
use Rattle.cw_rules.specs.{Answers.Begin, Tokens.moved}
use Rattle.cw_lex.proofs.Steps.{one-gives, token-here}
use Rattle.cw_lex.proofs.giving.begin_tex_inner.Goals as goal

pub returns-clause-gives : goal.returns-clause-gives
returns-clause-gives c =
    let s = c.args.state.now in
    let text : List ℕ = c.args.text.now in
    let new : State = record {
      at = s.at + 1;
      part = parts.TexInner;
      comments = s.comments;
      pending = s.pending;
      clear = s.clear;
    } in
    one-gives text s new _ _ 0 (moved (where_of s) parts.TexInner) c.requires.step.quiet c.requires.step.place
    c.requires.found (ap Begin (token-here text s.at 1 kinds.InnerText false _ c.requires.step.place
    c.token-token.ensures)) c.requires.step.quiet (omega arith) (omega arith) refl
