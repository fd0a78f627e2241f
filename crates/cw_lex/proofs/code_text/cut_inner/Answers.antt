-- A line's end finishes inner C text of a short comment, with a note that its bar is missing, and takes no byte.
use Rattle.std.proofs.Common.{ℕ, ◌≤◌, false, List, [], ◌∷◌, ◌++◌, None, drop, refl, sym, ap, ◌∙◌, arith}
use Rattle.cw_lex.specs.{declared.state.State.State, Lexing.last_at, model.Coming.found_at}
use Rattle.cw_rules.specs.declared.tokens.TokKind.TheVariants as kinds
use Rattle.cw_rules.specs.Answers.{before, Finish, note_answers, token_of}
use Rattle.cw_rules.specs.Pending.{pending_notes}
use Rattle.cw_rules.specs.Tokens.{passed, in_hash_line, inner_cut, comment_end, line_end}
use Rattle.cw_lex.proofs.{Steps.zero-gives, Lines.found-comment-line, Lines.in_hash_line-passed}
use Rattle.cw_lex.proofs.States.{ready-top, top-within}
use Rattle.cw_lex.proofs.code_text.cut_inner.Goals as goal

pub returns-clause-gives : goal.returns-clause-gives
returns-clause-gives c =
    let s = c.args.state.now in
    let text : List ℕ = c.args.text.now in
    let comment = c.args.comment in
    let rest = drop 1 s.comments in
    let new : State = record {
      at = s.at;
      part = c.passed-state.result;
      comments = c.set_top.new.self;
      pending = record { first = c.note_unless.result; second = None; body = None; last = None };
      clear = s.clear;
    } in
    let hash_line = in_hash_line s.part in
    let token = (λ i. token_of (sym c.in_hash_line.ensures i) kinds.InnerText s.at 0 []) ∙ sym c.token-token.ensures in
    let note = ap (λ n. note_answers
    (pending_notes text (record { first = n; second = None; body = None; last = None }))) (sym c.note_unless.ensures) in
    zero-gives text s new _ c.requires.step.quiet c.requires.step.place refl (c.requires.found
    ∙ (λ i. before (inner_cut hash_line s.at s.at ++ comment_end (sym (in_hash_line-passed s.part) i) comment s.at 0 [])
    (line_end (passed s.part) rest (last_at text s.at) s.at))
    ∙ ap (before (inner_cut hash_line s.at s.at)) (sym (found-comment-line text (passed s.part) comment.start
    comment.braces s.at comment.long rest c.requires.newline c.requires.short) ∙ (λ i. found_at text (record
    { part = sym c.passed-state.ensures.value i; comments = sym c.set_top.ensures i }) s.at)) ∙ (λ i. before (Finish
    (token i) ∷ note i) (found_at text (record { part = c.passed-state.result; comments = c.set_top.new.self }) s.at)))

pub returns-clause-ready : goal.returns-clause-ready
returns-clause-ready c =
    let s = c.args.state.now in
    let comment = c.args.comment in
    let ready = c.requires.step.ready in
    let braces : comment.braces ≤ s.at = top-within s.at s.comments comment _ ready.braces c.requires.top in
    ready-top c.args.text.now s c.passed-state.result comment (record comment { inner = false }) c.set_top.new.self _
    s.at ready c.requires.top c.passed-state.ensures.code braces (omega (arith, ready.depth)) c.set_top.ensures
    (omega arith) ready.within tt
