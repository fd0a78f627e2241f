-- How the answers from one place of a text follow from what begins there.
use Rattle.std.proofs.Common.{◌≡◌, ℕ, zero, suc, ◌+◌, ◌<◌, ◌≤◌, Bool, true, List, [], ◌∷◌, ◌++◌, length, slice_index}
use Rattle.std.proofs.Common.{take, drop, sym, ap, ◌∙◌, arith, add-zero, zero-add, length-drop}
use Rattle.std.proofs.{lemmas.List.drop-drop, Math.Seq.take-nil, lemmas.Grind.common_steps}
use Rattle.std.proofs.lemmas.Bool.Decides.{nat_tests}
use Rattle.cw_rules.{proofs.Runs.drop-here, specs.Answers.Answer, specs.Answers.Where, specs.Answers.ScanStep}
use Rattle.cw_lex.specs.model.Coming.{found_at}
use Rattle.cw_lex.specs.Lexing.{still_fresh, joined, answers, fresh_after, last_after, fresh_at, last_at, answers_at}

-- bytes that belong to the last token
taken : (bs : List ℕ) (w : Where) (fresh : Bool) (last place n : ℕ) → n ≤ length bs → answers bs w fresh last place n
    ≡ answers (drop n bs) w (fresh_after fresh (take n bs)) (last_after last (take n bs)) (place + n) 0
taken [] w fresh last place zero h = ap (λ p. answers [] w fresh last p 0) (sym (add-zero place))
taken [] w fresh last place (suc n) h = absurd (omega arith)
taken (b ∷ bs) w fresh last place zero h = ap (λ p. answers (b ∷ bs) w fresh last p 0) (omega arith)
taken (b ∷ bs) w fresh last place (suc n) h =
    grind (arith, nat_tests, taken bs w (still_fresh fresh b) b (place + 1) n (omega arith))

pub fresh-more : (fresh : Bool) (text : List ℕ) (m n : ℕ)
    → fresh_after (fresh_after fresh (take m text)) (take n (drop m text)) ≡ fresh_after fresh (take (m + n) text)
fresh-more fresh text zero n = ap (λ k. fresh_after fresh (take k text)) (sym (zero-add n))
fresh-more fresh [] (suc m) n = ap (fresh_after fresh) (take-nil n ∙ sym (take-nil (suc m + n)))
fresh-more fresh (b ∷ text) (suc m) n =
    let e : suc m + n ≡ suc (m + n) = omega arith in
    fresh-more (still_fresh fresh b) text m n ∙ ap (λ k. fresh_after fresh (take k (b ∷ text))) (sym e)

pub last-more : (last : ℕ) (text : List ℕ) (m n : ℕ) → last_after (last_after last (take m text)) (take n (drop m text))
    ≡ last_after last (take (m + n) text)
last-more last text zero n = ap (λ k. last_after last (take k text)) (sym (zero-add n))
last-more last [] (suc m) n = ap (last_after last) (take-nil n ∙ sym (take-nil (suc m + n)))
last-more last (b ∷ text) (suc m) n =
    let e : suc m + n ≡ suc (m + n) = omega arith in
    last-more b text m n ∙ ap (λ k. last_after last (take k (b ∷ text))) (sym e)

-- what the bytes up to behind a place say
pub fresh-here : (text : List ℕ) (place : ℕ) → place < length text
    → still_fresh (fresh_at text place) (slice_index text place) ≡ fresh_at text (place + 1)
fresh-here text place h =
    grind (arith, nat_tests, common_steps, drop-here text place h, fresh-more true text place 1, drop-here, fresh-more)

pub last-here : (text : List ℕ) (place : ℕ) → place < length text → slice_index text place ≡ last_at text (place + 1)
last-here text place h = grind (arith, nat_tests, drop-here text place h, last-more 0 text place 1)

-- what follows what begins at a place
abbrev pub rest_at : List ℕ → ℕ → Where → ℕ → List Answer
rest_at text place next more = answers (drop (place + 1) text) next
    (still_fresh (fresh_at text place) (slice_index text place)) (slice_index text place) (place + 1) more

pub answers-here : (text : List ℕ) (w : Where) (place : ℕ) → place < length text
    → answers_at text w place ≡ joined (found_at text w place) (λ next more. rest_at text place next more)
answers-here text w place h = grind (arith, nat_tests, drop-here)

-- the answers from a place on are those that begin there and those from where they end
pub answers-at : (text : List ℕ) (w : Where) (place : ℕ) (f : ScanStep) (next : ℕ) → place < length text
    → found_at text w place ≡ f → next ≡ (place + 1) + f.more → next ≤ length text
    → answers_at text w place ≡ f.answers ++ answers_at text f.next next
answers-at text w place f next h e n within =
    grind (arith, nat_tests, length-drop, drop-here, fresh-here, last-here, taken, drop-drop, fresh-more, last-more)
