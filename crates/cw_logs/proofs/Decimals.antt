-- Lines of different kinds differ.
use Rattle.cw_logs.proofs.Terms.{◌≡◌, ℕ, ◌≤◌, List, ◌∷◌, arith, decimal_injective, Production, head_text, item_text}
use Rattle.cw_logs.proofs.Terms.{end_text, greatest}

head-same : (a b : ℕ) (xs ys : List ℕ) → ◌≡◌ {A = List ℕ} (a ∷ xs) (b ∷ ys) → a ≡ b
head-same a b xs ys e = cc

pub head-injective : (m n : ℕ) → m ≤ greatest → n ≤ greatest → head_text m ≡ head_text n → m ≡ n
head-injective m n hm hn e = grind (arith, decimal_injective)

pub item-not-end : (p : Production) → item_text p ≡ end_text → ⊥
item-not-end p e = absurd (let k : 80 ≡ 101 = head-same 80 101 _ _ e in omega (arith, k))
