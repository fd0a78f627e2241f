-- The open comments in their rows.
use Rattle.std.proofs.Common.{◌≡◌, ℕ, zero, suc, ◌<◌, ◌≤◌, ◌≢◌, ◌∷◌, length, refl, ap, arith, get_or-set_same}
use Rattle.std.proofs.Common.{get_or-set_other}
use Rattle.std.proofs.lemmas.Bool.Decides.{nat_tests}
use Rattle.cw_rules.specs.declared.parts.Opened.{Opened}
use Rattle.cw_lex.specs.declared.comments.Rows.{Rows}
use Rattle.cw_lex.specs.model.Stack.{IsWhole, innermost, opened_at, with_opened}

pub innermost-length : (r : Rows) (n : ℕ) → length (innermost r n) ≡ n
innermost-length r zero = refl
innermost-length r (suc n) = ap suc (innermost-length r n)

other-at : (r : Rows) (n k : ℕ) (c : Opened) → n ≢ k → opened_at (with_opened r k c) n ≡ opened_at r n
other-at r n k c other = grind (arith, nat_tests, get_or-set_other)

same-at : (r : Rows) (n : ℕ) (c : Opened) → IsWhole r → n < 21 → opened_at (with_opened r n c) n ≡ c
same-at r n c whole h = grind (arith, nat_tests, get_or-set_same)

innermost-set : (r : Rows) (n k : ℕ) (c : Opened) → n ≤ k → innermost (with_opened r k c) n ≡ innermost r n
innermost-set r zero k c h = refl
innermost-set r (suc n) k c h =
    let other : n ≢ k = omega arith in (λ i. other-at r n k c other i ∷ innermost-set r n k c (omega arith) i)

pub innermost-push : (r : Rows) (n : ℕ) (c : Opened) → IsWhole r → n < 21 → innermost (with_opened r n c) (suc n)
    ≡ c ∷ innermost r n
innermost-push r n c whole h = (λ i. same-at r n c whole h i ∷ innermost-set r n n c (omega arith) i)
