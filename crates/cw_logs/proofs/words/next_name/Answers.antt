-- A name ends where its letters and digits do.
use Rattle.cw_logs.proofs.Terms.{◌≡◌, ◌∷◌, true, rules, is_letter}
use Rattle.cw_logs.proofs.WordLaws.{name-cut}
use Rattle.cw_logs.proofs.words.next_name.Goals as goal

pub returns : goal.returns
returns c =
    let text : c.args.text.now ≡ c.in_ok-blank.blank.now ∷ c.in_ok-blank.behind.now = search rules in
    let behind : c.in_ok-blank.behind.now ≡ c.in_ok-first.first.now ∷ c.in_ok-first._more.now = search rules in
    let blank : c.in_ok-blank.blank.now ≡ 32 = search rules in
    let letter : is_letter c.in_ok-first.first.now ≡ true = search rules in
    name-cut c.args.text.now c.in_ok-blank.behind.now c.in_ok-first._more.now c.from.result.now c.in_ok-blank.blank.now
    c.in_ok-first.first.now c.run-size.result text blank behind letter c.run-size.ensures.value c.from.ensures.value
