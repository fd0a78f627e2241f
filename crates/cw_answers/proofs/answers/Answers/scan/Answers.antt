-- Each answer is kept behind those before it.
use Rattle.cw_answers.proofs.Terms.{refl, subst, sym, ◌∙◌, ap, length, arith, rules, common_steps, Token, Begin, Finish}
use Rattle.cw_answers.proofs.Terms.{Note, seen, answer_at, IsWithin}
use Rattle.cw_lex.specs.Lexing.{tokens_of}
use Rattle.cw_answers.proofs.Standing.{Keeping, begin, pushed}
use Rattle.cw_answers.proofs.answers.Answers.scan.Goals.{in-Token, in-Begin, in-Finish, in-Note+in_ok-of-in-Note}
use Rattle.cw_answers.proofs.answers.Answers.scan.Goals as goal

pub loop-token-init : goal.loop-token-init
loop-token-init c = subst (λ l. Keeping c.args.text.now c.args.text.now c.over-lexer.result l c.over-lexer.result)
    (sym c.clear.ensures.items) (begin c.args.text.now c.args.text.now c.args.span.start c.args.span.end
    c.over-lexer.result refl c.requires.within c.over-lexer.ensures.covers c.over-lexer.ensures.within)

pub loop-token-preserved : goal.loop-token-preserved
loop-token-preserved c =
    let text = c.args.text.now in
    let kept = c.match-next.kept in
    let step = pushed text c.loop-token.self-inside.text.now c.over-lexer.result c.loop-token.self-inside.kept.items
    c.push.new.self.items kept in
    elim c.match-next.branch [
      | in-Token w ↦ step (Token (seen w.in-Token.token)) c.loop-token.lexer c.next.new.self c.in_ok-push.ensures.items
          w.in-Token.ensures (ap (answer_at text) w.kept-is ∙ ap Token w.of.ensures.same)
          (subst (IsWithin (length text)) (sym w.kept-is) w.of.ensures.within) c.loop-token.invariant
      | in-Begin w ↦ step (Begin (seen w.in-Begin.token)) c.loop-token.lexer c.next.new.self c.in_ok-push.ensures.items
          w.in-Begin.ensures (ap (answer_at text) w.kept-is ∙ ap Begin w.of-in-Begin.ensures.same)
          (subst (IsWithin (length text)) (sym w.kept-is) w.of-in-Begin.ensures.within) c.loop-token.invariant
      | in-Finish w ↦ step (Finish (seen w.in-Finish.token)) c.loop-token.lexer c.next.new.self
          c.in_ok-push.ensures.items
          w.in-Finish.ensures (ap (answer_at text) w.kept-is ∙ ap Finish w.of-in-Finish.ensures.same)
          (subst (IsWithin (length text)) (sym w.kept-is) w.of-in-Finish.ensures.within) c.loop-token.invariant
      | in-Note+in_ok-of-in-Note w ↦ step (Note w.in-Note.kind w.in-Note.place) c.loop-token.lexer c.next.new.self
          c.in_ok-push.ensures.items w.in-Note.ensures (ap (answer_at text) w.kept-is
          ∙ (λ i. Note (w.in_ok-of-in-Note.ensures.0 i) (w.in_ok-of-in-Note.ensures.1 i)))
          (subst (IsWithin (length text)) (sym w.kept-is) tt) c.loop-token.invariant
    ]

-- nothing is kept yet
pub returns-then-text-clause-err : goal.returns-then-text-clause-err
returns-then-text-clause-err c = (tokens_of c.args.text.now c.args.span.start c.args.span.end c.args.mode, search rules)

pub returns-in-End-clause-ok : goal.returns-in-End-clause-ok
returns-in-End-clause-ok c = grind (arith, common_steps)
