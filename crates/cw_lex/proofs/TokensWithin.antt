-- The tokens of a part of a text lie in it.
use Rattle.std.proofs.Common.{ℕ, zero, suc, ◌+◌, ◌-◌, ◌≤◌, Bool, List, [], ◌∷◌, length, arith, length-drop}
use Rattle.std.proofs.{lemmas.List.length-take, lemmas.Bool.Decides.nat_tests}
use Rattle.cw_rules.specs.{declared.tokens.Mode.Mode, Answers.Where, Order.AreWithin, Tokens.all_cut}
use Rattle.cw_rules.specs.{model.Apart.found_apart}
use Rattle.cw_rules.proofs.Within.{append-within, wider, all_cut-within, found-fits}
use Rattle.cw_lex.specs.Lexing.{still_fresh, answers, tokens_of}

-- the answers from a place on
all-within : (bytes : List ℕ) (w : Where) (fresh : Bool) (last place taken low : ℕ) → low ≤ place → taken ≤ length bytes
    → AreWithin low (place + length bytes) (answers bytes w fresh last place taken)
all-within [] w fresh last place taken low l t = wider place (place + 0) low (place + 0)
    (all_cut w.part w.comments place (place - 1)) l (omega arith) (all_cut-within w.part w.comments place (place - 1) 0)
all-within (b ∷ bs) w fresh last place zero low l t =
    let f = found_apart w fresh last place b bs in
    let h = found-fits w fresh last place b bs in
    let rest = answers bs f.next (still_fresh fresh b) b (place + 1) f.more in
    append-within low (place + suc (length bs)) f.answers rest
    (wider place (place + suc (length bs)) low (place + suc (length bs)) f.answers l (omega arith) h.within)
    (wider low ((place + 1) + length bs) low (place + suc (length bs)) rest (omega arith) (omega arith)
    (all-within bs f.next (still_fresh fresh b) b (place + 1) f.more low (omega (arith, l)) (omega (arith, h.more))))
all-within (b ∷ bs) w fresh last place (suc taken) low l t = wider low ((place + 1) + length bs) low
    (place + suc (length bs)) (answers bs w (still_fresh fresh b) b (place + 1) taken) (omega arith) (omega arith)
    (all-within bs w (still_fresh fresh b) b (place + 1) taken low (omega (arith, l)) (omega (arith, t)))

-- the tokens of a part of a text
pub tokens-within : (text : List ℕ) (from end : ℕ) (mode : Mode) → from ≤ end → end ≤ length text
    → AreWithin from end (tokens_of text from end mode)
tokens-within text from end mode order within = grind (arith, nat_tests, length-drop, length-take, wider, all-within)
