-- Which lists stand in the tree of another.
use Rattle.cw_tokens.proofs.Terms.{◌≡◌, ℕ, List, Some, ◌⊎◌, inl, inr, refl, sym, subst, arith, Token, refers}
use Rattle.cw_tokens.proofs.Terms.{IsUnreferred, IsTied, Reach, here, next}
use Rattle.cw_tokens.proofs.Unfolding.{reach-le}

module _ (ls : List (List Token)) (tied : IsTied ls) where
  last-step : (b m : ℕ) → Reach ls b m → (l p : ℕ) → refers ls l p ≡ Some m → (b ≡ m) ⊎ Reach ls b l
  last-step b m here l p e = inl refl
  last-step b m (next k q n f t) l p e = inr (subst (λ i. Reach ls b i) (tied.once k q l p m f e).0 t)

  -- of two lists that lead to one, one leads to the other
  pub comparable : (a b m : ℕ) → Reach ls a m → Reach ls b m → Reach ls a b ⊎ Reach ls b a
  comparable a b m here s = inr s
  comparable a b m (next l p n e r) s = elim (last-step b m s l p e) [
    | inl d ↦ inl (subst (λ i. Reach ls a i) (sym d) (next l p m e r))
    | inr t ↦ comparable a b l r t
  ]

  -- a list to which none refers is led to from itself alone
  pub unreferred-reach : (a b : ℕ) → IsUnreferred ls b → Reach ls a b → a ≡ b
  unreferred-reach a b free here = refl
  unreferred-reach a b free (next l p n e r) = absurd (free l p e)

  child-reach : (m q r x y : ℕ) → refers ls m q ≡ Some x → refers ls m r ≡ Some y → Reach ls x y → q ≡ r
  child-reach m q r x y e f here = (tied.once m q m r x e f).1
  child-reach m q r x y e f (next l p n g w) = grind (arith, reach-le)

  -- of the tokens of one list at most one leads to a list
  pub siblings : (m q r x y n : ℕ) → refers ls m q ≡ Some x → refers ls m r ≡ Some y → Reach ls x n → Reach ls y n
      → q ≡ r
  siblings m q r x y n e f a b = grind (arith, comparable, child-reach)
