-- The kept answer behind so many stands for theirs.
use Rattle.cw_answers.proofs.Terms.{◌≡◌, ◌<◌, ap, subst, sym, ◌∙◌, drop, ◌∷◌, ◌+◌, length, drop-map, length-map, Gives}
use Rattle.cw_answers.proofs.Terms.{answer_at, answers_at}
use Rattle.cw_answers.proofs.Standing.{ahead}
use Rattle.cw_answers.proofs.answers.Answers.at.Goals as goal

pub returns : goal.returns
returns c =
    let text = c.self.inside.text.now in
    let kept = c.self.inside.kept.items in
    let place = c.args.place in
    let all = c.args.self.now in
    let within : place < length kept =
    subst (λ n. place < n) (sym (ap length c.self.view_is) ∙ length-map kept (answer_at text)) c.requires in
    let behind : answers_at text (drop (place + 1) kept) ≡ drop (place + 1) all =
    sym (drop-map (answer_at text) (place + 1) kept) ∙ ap (drop (place + 1)) c.self.view_is in
    let front : drop place all ≡ answer_at text c.index.result.now ∷ drop (place + 1) all = ap (drop place)
    (sym c.self.view_is) ∙ drop-map (answer_at text) place kept ∙ ap (answers_at text)
    (ahead kept place c.index.result.now within) ∙ (λ i. answer_at text (sym c.index.ensures i) ∷ behind i) in
    subst (λ answers. Gives answers c.answer.result (drop (place + 1) all)) (sym front)
    (c.answer.ensures (drop (place + 1) all))
