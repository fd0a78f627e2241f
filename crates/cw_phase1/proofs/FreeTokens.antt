-- A word or a sign in no head leaves the text standing as it does.
use Rattle.cw_phase1.proofs.Terms.{◌≡◌, ap, false, true, List, None, arith, Span, MergedLine, head_behind, Seen}
use Rattle.cw_phase1.proofs.Terms.{TokKind, Role, Standing, TokenLists, HeldState, held_of, is_silent, plain_held}
use Rattle.cw_phase1.proofs.Terms.{remark_of, waiting_of, free_step, placed_by, stay, token_step, told_step}
use Rattle.cw_phase1.specs.declared.pass_state.PassState.{PassState}
use Rattle.cw_lex.specs.declared.heads.Expectation.TheVariants as wants
use Rattle.cw_rules.specs.declared.tokens.TokKind.TheVariants as kinds
use Rattle.cw_phase1.specs.declared.roles.Role.TheVariants as roles

no-head : (kind : TokKind) (span : Span) → head_behind wants.Nothing kind span ≡ None
no-head kind span = grind arith

word : (kind : TokKind) → kind ≡ kinds.Identifier → (t : Standing) → free_step kind false t ≡ stay roles.Word t
word kind is t = ap (λ k. free_step k false t) is

pub silent-step : (kind : TokKind) (s : Standing) (span : Span) → s.wanted ≡ wants.Nothing → is_silent kind ≡ true
    → token_step kind false s span ≡ stay roles.Plain s
silent-step kind s span none is = grind (arith, no-head)

pub word-step : (kind : TokKind) (s : Standing) (span : Span) → s.wanted ≡ wants.Nothing → kind ≡ kinds.Identifier
    → token_step kind false s span ≡ stay roles.Word s
word-step kind s span none is = grind (arith, no-head)

abbrev pub with_told : PassState → TokenLists → HeldState
with_told h told = record {
  pass = record { standing = h.standing; waiting = waiting_of h.waiting };
  kept = h.kept;
  told = told;
  remark = remark_of h.remark;
  notes = h.notes;
}

pub stays-held : (role : Role) (lines : List MergedLine) (h : PassState) (t : Seen) (told : TokenLists)
    → token_step t.kind false h.standing t.span ≡ stay role h.standing → h.waiting ≡ None → told ≡ told_step lines
    (placed_by t None (stay role h.standing)) h.told → with_told h told ≡ plain_held lines t (held_of h)
stays-held role lines h t told step waits is = grind arith
