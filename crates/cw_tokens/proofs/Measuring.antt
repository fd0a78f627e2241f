-- How much of a walk through a tree is still to come.
use Rattle.cw_tokens.proofs.Terms.{◌≡◌, ℕ, zero, suc, ◌+◌, ◌<◌, ◌≤◌, false, eqb, List, [], length, Some, drop, get_or}
use Rattle.cw_tokens.proofs.Terms.{sym, ap, ◌∙◌, arith, slice_get, eq-eqb, eqb-true, Tree, Token, Link, Shape, shape}
use Rattle.cw_tokens.proofs.Terms.{ref_of, item_of, tree_in, trees_from, unfolded, token_ref, refers, Reach, here, next}
use Rattle.cw_tokens.proofs.Terms.{no_link, IsLinked, Path, top, down, size, size_from, size_above}
use Rattle.cw_tokens.proofs.{Linking.refers-within, Linking.linked-tied, Unfolding.unfold-is, Unfolding.reach-le}
use Rattle.cw_tokens.proofs.{Searching.drop-at}

pub reach-of : (ls : List (List Token)) (root l : ℕ) → Path ls root l → Reach ls root l
reach-of ls root l top = here
reach-of ls root l (down m p x t e h n w) = next m p l (ap token_ref e ∙ ap ref_of h) (reach-of ls root m w)

neq-eqb : (a b : ℕ) → (a ≡ b → ⊥) → eqb a b ≡ false
neq-eqb a b h = grind (arith, eqb-true)

module _ (ls : List (List Token)) (links : List Link) (root : ℕ) (linked : IsLinked ls links) where
  -- what stands above the root is nothing
  above-root : (n : ℕ) → size_above ls links root n root ≡ 0
  above-root n = grind (arith, eq-eqb)

  -- and above another list, what follows the token that refers to it
  above-next : (n l p x : ℕ) → refers ls l p ≡ Some x → x < root → size_above ls links root (suc n) x
      ≡ 1 + (size_from ls l (p + 1) + size_above ls links root n l)
  above-next n l p x e lt = grind (arith, neq-eqb)

  -- fuel that reaches the root is enough
  above-more : (l : ℕ) → Reach ls root l → (f g : ℕ) → root ≤ l + f → root ≤ l + g → size_above ls links root f l
      ≡ size_above ls links root g l
  above-more l here f g a b = above-root f ∙ sym (above-root g)
  above-more l (next m p n e w) zero g a b = grind (arith, reach-le, linked-tied)
  above-more l (next m p n e w) (suc f) zero a b = grind (arith, reach-le, linked-tied)
  above-more l (next m p n e w) (suc f) (suc g) a b =
      let low : l < m = linked.earlier m p l e in
      let up : m ≤ root = reach-le ls root m (linked-tied ls links linked) w in
      let lt : l < root = omega arith in
      above-next f m p l e lt ∙ (ap (λ n. 1 + (size_from ls m (p + 1) + n))
      (above-more m w f g (omega arith) (omega arith)) ∙ sym (above-next g m p l e lt))

  abbrev pub left : ℕ → ℕ → ℕ
  left l p = size_from ls l p + size_above ls links root (length ls) l

  left-next : (l p x : ℕ) → root < length ls → Reach ls root l → refers ls l p ≡ Some x
      → size_above ls links root (length ls) x ≡ 1 + (size_from ls l (p + 1) + size_above ls links root (length ls) l)
  left-next l p x lt w e = grind (arith, reach-le, linked-tied, above-next, above-more)

  size-item : (s : Shape) (rest : Tree) → size rest < size (item_of (trees_from [] ls) s rest)
  size-item s rest = grind arith

  size-at : (l p : ℕ) (t : Token) → slice_get (get_or ls l []) p ≡ Some t → size_from ls l p
      ≡ size (item_of (trees_from [] ls) (shape t) (tree_in (trees_from [] ls) (drop (p + 1) (get_or ls l []))))
  size-at l p t e = grind (arith, drop-at)

  size-below : (s : Shape) (x : ℕ) (rest : Tree) → ref_of s ≡ Some x → size (item_of (trees_from [] ls) s rest)
      ≡ 2 + (size (unfolded ls x) + size rest)
  size-below s x rest e = grind arith

  pub less-down : (l p x : ℕ) (t : Token) → root < length ls → Reach ls root l → slice_get (get_or ls l []) p ≡ Some t
      → ref_of (shape t) ≡ Some x → left x 0 < left l p
  less-down l p x t lt w e h =
      let r : refers ls l p ≡ Some x = ap token_ref e ∙ h in
      let low : x < l = linked.earlier l p x r in
      let inside : l < length ls = refers-within ls l p x r in
      let a : size_from ls l p ≡ 2 + (size (unfolded ls x) + size_from ls l (p + 1)) = size-at l p t e
      ∙ size-below (shape t) x (tree_in (trees_from [] ls) (drop (p + 1) (get_or ls l []))) h in
      let b : size_from ls x 0 ≡ size (unfolded ls x) =
      ap size (sym (unfold-is ls x (linked-tied ls links linked) (omega arith))) in
      let d : size_above ls links root (length ls) x
      ≡ 1 + (size_from ls l (p + 1) + size_above ls links root (length ls) l) = left-next l p x lt w r in
      omega arith

  pub less-up : (x p : ℕ) → root < length ls → Reach ls root x → (x ≡ root → ⊥) → length (get_or ls x []) ≤ p
      → left (get_or links x no_link).list (get_or links x no_link).place < left x p
  less-up x p lt w apart end = grind (arith, left-next)
