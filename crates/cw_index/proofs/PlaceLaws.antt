-- A name that is whole stands in the text.
use Rattle.cw_index.proofs.Terms.{◌≡◌, ℕ, ◌≤◌, List, length, arith, drop_all, take_all, Listed, IsWholeName, name_span}
use Rattle.std.proofs.lemmas.Bool.{cases_lt}

-- behind a text no name begins
behind-end : (text : List ℕ) (place : ℕ) → length text ≤ place → (name_span text place).«end» ≡ place
behind-end text place past = grind (arith, take_all, drop_all)

pub whole-within : (text : List ℕ) (l : Listed) → IsWholeName text l → l.place ≤ length text
whole-within text l whole = grind (arith, cases_lt, behind-end)
