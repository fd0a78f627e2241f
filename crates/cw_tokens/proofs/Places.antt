-- What the code reads at a place of a list.
use Rattle.cw_tokens.proofs.Terms.{◌≡◌, ℕ, ◌<◌, ◌≤◌, List, [], length, get_or, Some, sym, ap, ◌∙◌, arith, slice_get}
use Rattle.cw_tokens.proofs.Terms.{slice_get-get_or, Token, cut}
use Rattle.cw_tokens.proofs.Cutting.{length-cut}

-- a list of the store that the code has read, at a place below its length
pub at-place : (ls : List (List Token)) (l p : ℕ) (items : List Token) (d : Token) → items ≡ get_or ls l []
    → p < length items → slice_get (get_or ls l []) p ≡ Some (get_or items p d)
at-place ls l p items d e lt = ap (λ us. slice_get us p) (sym e) ∙ slice_get-get_or items p d lt

pub at-end : (ls : List (List Token)) (l p : ℕ) (items : List Token) → items ≡ get_or ls l [] → length items ≤ p
    → length (get_or ls l []) ≤ p
at-end ls l p items e h = omega (arith, ap length e)

pub below-cut : (es : List ℕ) (ts : List Token) (i : ℕ) → i < length es → i < length (cut 0 es ts)
below-cut es ts i h = omega (arith, length-cut 0 es ts)

pub above-cut : (es : List ℕ) (ts : List Token) (i : ℕ) → i < length (cut 0 es ts) → i < length es
above-cut es ts i h = omega (arith, length-cut 0 es ts)
