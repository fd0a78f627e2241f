-- A line without one of its numbers is no production.
use Rattle.cw_logs.proofs.Terms.{◌≡◌, ◌∷◌, None, MatchOption, sym, subst, rules, arith, decimal, HasItem, NoItem}
use Rattle.cw_logs.proofs.LineKinds.{item-of, no-zero}
use Rattle.cw_logs.proofs.items.item_in.Goals as goal

pub returns-in_err-number : goal.returns-in_err-number
returns-in_err-number c =
    let none : c.from_residual-in_err-number.result ≡ None = search rules in
    let line : c.args.line.now ≡ c.in_ok-letter.letter.now ∷ c.in_ok-letter.behind.now = search rules in
    let letter : c.in_ok-letter.letter.now ≡ 80 = search rules in
    let rest : c.cut_word-cut.result.rest.now ≡ c.in_ok-_blank._blank.now ∷ c.in_ok-_blank.digits.now = search rules in
    subst (λ r. MatchOption r (NoItem c.args.line.now) (λ item. HasItem c.args.line.now item))
    (sym none) (λ p fine is. c.in_err-number.ensures _ (omega (arith, fine.to_last)) (item-of
    c.args.line.now _ c.cut_word-cut.result.word.now _ _ _ _ line letter c.cut_word-cut.ensures rest p fine is).0)

pub returns-in_err-place : goal.returns-in_err-place
returns-in_err-place c =
    let none : c.from_residual-in_err-place.result ≡ None = search rules in
    let line : c.args.line.now ≡ c.in_ok-letter.letter.now ∷ c.in_ok-letter.behind.now = search rules in
    let letter : c.in_ok-letter.letter.now ≡ 80 = search rules in
    let rest : c.cut_word-cut.result.rest.now ≡ c.in_ok-_blank._blank.now ∷ c.in_ok-_blank.digits.now = search rules in
    subst (λ r. MatchOption r (NoItem c.args.line.now) (λ item. HasItem c.args.line.now item))
    (sym none) (λ p fine is. c.in_err-place.ensures
    p.place (omega (arith, fine.near)) (item-of _ _ _ _ _ _ _ line letter c.cut_word-cut.ensures rest p fine is).1)

pub returns-then-number-eq0 : goal.returns-then-number-eq0
returns-then-number-eq0 c =
    let line : c.args.line.now ≡ c.in_ok-letter.letter.now ∷ c.in_ok-letter.behind.now = search rules in
    let letter : c.in_ok-letter.letter.now ≡ 80 = search rules in
    let rest : c.cut_word-cut.result.rest.now ≡ c.in_ok-_blank._blank.now ∷ c.in_ok-_blank.digits.now = search rules in
    let word : c.cut_word-cut.result.word.now ≡ decimal c.in_ok-number.number = search rules in
    let zeros : c.in_ok-number.number ≡ 0 = search rules in
    λ p fine is. no-zero
    _ _ p fine zeros word (item-of c.args.line.now _ _ _ _ _ _ line letter c.cut_word-cut.ensures rest p fine is).0
