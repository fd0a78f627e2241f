-- Digits to which one is added: from behind, over nines, up to the first digit that can take it.
use Rattle.cw_texpart.proofs.Terms.{◌≡◌, ◌<◌, ◌+◌, ℕ, Bool, true, false, List, [], ◌∷◌, ◌++◌, ap, sym, ◌∙◌, nat_lt}
use Rattle.cw_texpart.proofs.Terms.{length, get_or, set, take, drop, take-append-drop, add-one, arith, drop_more}
use Rattle.cw_texpart.proofs.Terms.{get_or-take, set_split, take-take, Added, add_behind, carry_to, one_if_carried}
use Rattle.cw_texpart.proofs.Terms.{successor, with_one}
use Rattle.std.proofs.lemmas.Bool.Decides.{nat_tests}

abbrev added : Bool → List ℕ → Added
added carried digits = record { carried = carried; digits = digits }

set-into : (digits : List ℕ) (at value : ℕ) → at < length digits
    → set digits at value ≡ take at digits ++ value ∷ drop (at + 1) digits
set-into digits at value within = rw (add-one at) (set_split digits at value within)

-- one that isn't carried leaves the digits before it as they are
with_one-append : (xs ys zs : List ℕ) → with_one ys ≡ added false zs → with_one (xs ++ ys) ≡ added false (xs ++ zs)
with_one-append [] ys zs e = e
with_one-append (x ∷ xs) ys zs e = ap (add_behind x) (with_one-append xs ys zs e)

taken-up : (digit : ℕ) (digits : List ℕ) → nat_lt digit 57 ≡ true
    → carry_to digit digits ≡ added false ((digit + 1) ∷ digits)
taken-up digit digits low = rw low

-- where the digits before a place are as they were, and one is carried over those behind them
to-next : (number digits : List ℕ) (at : ℕ) → at < length number → length digits ≡ length number
    → take (at + 1) digits ≡ take (at + 1) number → with_one (drop (at + 1) number) ≡ added true (drop (at + 1) digits)
    → with_one (drop at number) ≡ carry_to (get_or digits at 0) (drop (at + 1) digits)
to-next number digits at within size front carried =
    let same : get_or number at 0 ≡ get_or digits at 0 = sym (get_or-take (at + 1) number at 0 (omega arith))
    ∙ ap (λ (l : List ℕ). get_or l at 0) (sym front) ∙ get_or-take (at + 1) digits at 0 (omega arith) in
    ap with_one (drop_more number at 0 within ∙ ap (λ (d : ℕ). d ∷ drop (at + 1) number) same)
    ∙ ap (add_behind (get_or digits at 0)) carried

-- that place's digit takes it up, unless it is a nine, and the digits before it stay
pub digit-takes : (number digits : List ℕ) (at : ℕ) → at < length number → length digits ≡ length number
    → take (at + 1) digits ≡ take (at + 1) number
    → with_one (drop (at + 1) number) ≡ record { carried = true; digits = drop (at + 1) digits }
    → get_or digits at 0 < 57 → set digits at (get_or digits at 0 + 1) ≡ successor number
digit-takes number digits at within size front carried low =
    let value : ℕ = get_or digits at 0 + 1 in
    let raised : List ℕ = value ∷ drop (at + 1) digits in
    let behind : with_one (drop at number) ≡ added false raised = to-next number digits at within size front carried
    ∙ taken-up (get_or digits at 0) (drop (at + 1) digits) (grind (arith, nat_tests)) in
    let before : take at digits ≡ take at number = sym (take-take at (at + 1) digits (omega arith)) ∙ ap (take at) front
    ∙ take-take at (at + 1) number (omega arith) in
    let whole : with_one number ≡ added false (take at number ++ raised) = ap with_one
    (sym (take-append-drop at number)) ∙ with_one-append (take at number) (drop at number) raised behind in
    (set-into digits at value (omega arith)) ∙ ap (λ (l : List ℕ). l ++ raised) before ∙ sym (ap one_if_carried whole)
