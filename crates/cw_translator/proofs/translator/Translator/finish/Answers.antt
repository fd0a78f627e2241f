-- The list of a text that ends is a part of what holds it; that of a comment or name is a scrap around it.
use Rattle.cw_translator.proofs.Terms.{[], ◌∷◌, refl, ap, ◌∙◌, arith, on_ok_weaker, Finish, tied-idle, entry_of}
use Rattle.cw_translator.proofs.Terms.{with_entry, with_part}
use Rattle.cw_translator.specs.declared.comments.CommentPart.TheVariants as part
use Rattle.cw_translator.proofs.Recorded.{recorded-refused}
use Rattle.cw_translator.proofs.Routes.{advances-quiet, advances-refused, on-err, unchanged}
use Rattle.cw_translator.proofs.FinishSteps.{comment-quiet, none-quiet, open-line, open-lists, same-names}
use Rattle.cw_translator.proofs.FinishSteps.{text-advances, text-refused}
use Rattle.cw_translator.proofs.translator.Translator.finish.Goals as goal

pub translate_line-requires : goal.translate_line-requires
translate_line-requires g c = record {
  sound = open-line _ _ _ _ _ c.requires.translating (c.in-Some-CText.ensures
      ∙ ap (λ x. x ∷ c.end.new.self) c.in-Some-CText.field-0-is);
}

pub held_list-requires-clause-roots : goal.held_list-requires-clause-roots
held_list-requires-clause-roots g c = rw c.parts.ensures (open-lists _ _ _ _ _ _ c.requires.translating
    (c.in-Some-Comment.ensures ∙ ap (λ x. x ∷ c.end.new.self) c.in-Some-Comment.field-0-is))

pub returns-in_err-done-in-Some-CText : goal.returns-in_err-done-in-Some-CText
returns-in_err-done-in-Some-CText g c = λ token.
    let e = c.in_err-done-in-Some-CText.ensures in
    text-refused _ _ _ (c.in-Some-CText.ensures ∙ ap (λ x. x ∷ c.end.new.self) c.in-Some-CText.field-0-is) token
    (record { retypes = e.retypes; bound = e.bound; same = e.same; idle = e.idle; recorded = e.recorded })
    c.from_residual.ensures.1

pub returns-in_err-count-in-Some-CText : goal.returns-in_err-count-in-Some-CText
returns-in_err-count-in-Some-CText g c = λ token.
    let e = c.in_ok-done-in-Some-CText.ensures in
    text-refused _ _ _ (c.in-Some-CText.ensures ∙ ap (λ x. x ∷ c.end.new.self) c.in-Some-CText.field-0-is) token
    (record { retypes = e.retypes; bound = e.bound; same = e.same; idle = e.idle; recorded = e.recorded })
    c.from_residual-in_err-count-in-Some-CText.ensures.1

pub returns-in_ok-count-in-Some-CText : goal.returns-in_ok-count-in-Some-CText
returns-in_ok-count-in-Some-CText g c = λ token.
    let e = c.in_ok-done-in-Some-CText.ensures in
    let counted = c.in_ok-count-in-Some-CText.ensures.counted in
    text-advances _ _ _ (c.in-Some-CText.ensures ∙ ap (λ x. x ∷ c.end.new.self) c.in-Some-CText.field-0-is) token _
    (record { retypes = e.retypes; bound = e.bound; same = e.same; idle = e.idle; recorded = e.recorded }) e.done
    c.requires.translating (tied-idle c.args.work.now.store.now c.requires.translating.idle c.tied_law.ensures)
    (ap (λ t. t.scraps) counted) (ap (λ t. t.productions) counted) (on_ok_weaker c.add_part.result (λ made. made
    ∙ ap (λ t. with_part (part.InnerText c.in_ok-done-in-Some-CText.done.list) t.nesting) counted) c.add_part.ensures)

pub returns-in_err-list-in-Some-Comment : goal.returns-in_err-list-in-Some-Comment
returns-in_err-list-in-Some-Comment g c = λ token.
    let is = c.from_residual-in_err-list-in-Some-Comment.ensures.1 in
    advances-refused is (same-names _ (Finish token ∷ []) _) (recorded-refused _ _ is) (omega arith)
    (record { names = refl; store = refl; marks = refl; steps = refl }) c.in_err-list-in-Some-Comment.ensures.idle

pub returns-in_ok-list-in-Some-Comment : goal.returns-in_ok-list-in-Some-Comment
returns-in_ok-list-in-Some-Comment g c = λ token. advances-quiet (on_ok_weaker c.add_scrap.result (λ made. comment-quiet
    _ token _ _ _ _ (record { scraps = refl; productions = refl }) c.in_ok-list-in-Some-Comment.list (rw c.parts.ensures
    at c.in_ok-list-in-Some-Comment.ensures.tree) (rw c.parts.ensures at c.in_ok-list-in-Some-Comment.ensures.gathers)
    c.in_ok-list-in-Some-Comment.ensures.idle refl refl c.requires.translating (tied-idle c.args.work.now.store.now
    c.requires.translating.idle c.tied_law.ensures) (c.in-Some-Comment.ensures ∙ ap (λ x. x ∷ c.end.new.self)
    c.in-Some-Comment.field-0-is) (made ∙ ap (λ l. with_entry (entry_of l) c.end.new.self) c.leaf.ensures.value))
    c.add_scrap.ensures) (on-err c.add_scrap.result _ (same-names _ (Finish token ∷ []) _)) refl refl
    (record { names = refl; store = refl; marks = refl; steps = refl }) c.in_ok-list-in-Some-Comment.ensures.idle

pub returns-in-None : goal.returns-in-None
returns-in-None g c = λ token. advances-quiet (none-quiet _ token _ _ _ (record { scraps = refl; productions = refl })
    c.requires.translating c.in-None.ensures.0 c.in-None.ensures.1) tt refl refl unchanged c.requires.translating.idle
