-- A bar finishes inner C text of TeX text, which goes on behind it.
use Rattle.std.proofs.Common.{ℕ, ◌+◌, List, sym, ap, ◌∙◌, arith}
use Rattle.cw_rules.specs.declared.parts.Part.TheVariants as parts
use Rattle.cw_lex.{specs.declared.state.State.State, proofs.Steps.one-gives, proofs.Steps.token-here}
use Rattle.cw_rules.specs.declared.tokens.TokKind.TheVariants as kinds
use Rattle.cw_rules.specs.{Answers.Finish, Answers.token_of, Tokens.behind_inner, model.Cuttings.bytes_at}
use Rattle.cw_lex.proofs.comment_text.end_tex_inner.Goals as goal

pub returns-clause-gives : goal.returns-clause-gives
returns-clause-gives c =
    let s = c.args.state.now in
    let text : List ℕ = c.args.text.now in
    let new : State = record {
      at = s.at + 1;
      part = parts.Tex;
      comments = s.comments;
      pending = s.pending;
      clear = s.clear;
    } in
    one-gives text s new _ _ 0 (behind_inner s.part s.comments) c.requires.step.quiet c.requires.step.place
    c.requires.found (ap Finish ((λ i. token_of (sym c.in_hash_line.ensures i) kinds.InnerText s.at 1
    (bytes_at text s.at)) ∙ token-here text s.at 1 kinds.InnerText c.in_hash_line.result _ c.requires.step.place
    c.token-token.ensures)) c.requires.step.quiet (omega arith) (omega arith) (ap (λ cs. record
    { part = parts.Tex; comments = cs }) c.requires.comments ∙ sym (ap (behind_inner s.part) c.requires.comments))
