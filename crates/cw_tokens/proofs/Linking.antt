-- Each list is linked to the one token that refers to it.
use Rattle.cw_tokens.proofs.Terms.{◌≡◌, ℕ, zero, suc, ◌+◌, ◌<◌, List, [], ◌∷◌, ◌++◌, length, Option, Some, None, ◌⊎◌}
use Rattle.cw_tokens.proofs.Terms.{inl, inr, get_or, refl, sym, ap, ◌∙◌, arith, slice_get, get_or_append_left}
use Rattle.cw_tokens.proofs.Terms.{get_or-set_same, get_or-set_other, common_steps, Token, Link, shape, ref_of}
use Rattle.cw_tokens.proofs.Terms.{token_ref, refers, IsUnreferred, IsTied, with_built, linked, no_link, IsLinked}
use Rattle.std.proofs.lemmas.Bool.Decides.{nat_tests}

-- a list that refers is one of the store
pub refers-within : (ls : List (List Token)) (l p x : ℕ) → refers ls l p ≡ Some x → l < length ls
refers-within [] l p x h = cc
refers-within (ts ∷ ls) zero p x h = omega arith
refers-within (ts ∷ ls) (suc l) p x h = let k : l < length ls = refers-within ls l p x h in omega arith

-- what one list more refers to
pub refers-more : (ls : List (List Token)) (ts : List Token) (l p x : ℕ) → refers (ls ++ ts ∷ []) l p ≡ Some x
    → (refers ls l p ≡ Some x) ⊎ ((l ≡ length ls) × (token_ref (slice_get ts p) ≡ Some x))
refers-more [] ts zero p x h = inr (refl, h)
refers-more [] ts (suc l) p x h = cc
refers-more (us ∷ ls) ts zero p x h = inl h
refers-more (us ∷ ls) ts (suc l) p x h = grind (arith, refers-more ls ts l p x h)

pub refers-old : (ls : List (List Token)) (ts : List Token) (l p : ℕ) → l < length ls → refers (ls ++ ts ∷ []) l p
    ≡ refers ls l p
refers-old ls ts l p h = ap (λ us. token_ref (slice_get us p)) (get_or_append_left ls (ts ∷ []) [] l h)

-- what one token more refers to
token_ref-push : (ts : List Token) (t : Token) (p x : ℕ) → token_ref (slice_get (ts ++ t ∷ []) p) ≡ Some x
    → (token_ref (slice_get ts p) ≡ Some x) ⊎ ((p ≡ length ts) × (ref_of (shape t) ≡ Some x))
token_ref-push [] t zero x h = inr (refl, h)
token_ref-push [] t (suc p) x h = cc
token_ref-push (u ∷ ts) t zero x h = inl h
token_ref-push (u ∷ ts) t (suc p) x h = grind (arith, token_ref-push ts t p x h)

last-list : (ls : List (List Token)) (ts : List Token) (p : ℕ) → refers (ls ++ ts ∷ []) (length ls) p
    ≡ token_ref (slice_get ts p)
last-list [] ts p = refl
last-list (us ∷ ls) ts p = last-list ls ts p

-- a list that has one token more refers to what it did, or the new token refers
pub pushed-ref : (ls : List (List Token)) (ts : List Token) (t : Token) (l p x : ℕ)
    → refers (ls ++ (ts ++ t ∷ []) ∷ []) l p ≡ Some x → (refers (ls ++ ts ∷ []) l p ≡ Some x)
    ⊎ ((l ≡ length ls) × (p ≡ length ts) × (ref_of (shape t) ≡ Some x))
pushed-ref ls ts t l p x h = elim (refers-more ls (ts ++ t ∷ []) l p x h) [
  | inl k ↦ inl (refers-old ls ts l p (refers-within ls l p x k) ∙ k)
  | inr k ↦ elim (token_ref-push ts t p x k.1) [
    | inl m ↦ inl (ap (λ i. refers (ls ++ ts ∷ []) i p) k.0 ∙ (last-list ls ts p ∙ m))
    | inr m ↦ inr (k.0, m.0, m.1)
  ]
]

module _ (ls : List (List Token)) (ts : List Token) (t : Token) (links : List Link)
    (old : IsLinked (ls ++ ts ∷ []) links) (same : length links ≡ length ls)
    (may : (x : ℕ) → ref_of (shape t) ≡ Some x → (x < length ls) × IsUnreferred (ls ++ ts ∷ []) x) where
  abbrev new : List (List Token)
  new = ls ++ (ts ++ t ∷ []) ∷ []

  abbrev up-here : Link
  up-here = record { list = length ls; place = length ts + 1 }

  still : (r : Option ℕ) → ref_of (shape t) ≡ r → (l p x : ℕ) → refers (ls ++ ts ∷ []) l p ≡ Some x
      → get_or (linked r up-here links) x no_link ≡ record { list = l; place = p + 1 }
  still r e l p x h = grind (arith, get_or-set_other)

  fresh : (r : Option ℕ) → ref_of (shape t) ≡ r → (x : ℕ) → ref_of (shape t) ≡ Some x
      → get_or (linked r up-here links) x no_link ≡ up-here
  fresh r e x h = grind (arith, get_or-set_same)

  at-here : (l p : ℕ) → l ≡ length ls → p ≡ length ts → ◌≡◌ {A = Link} up-here (record { list = l; place = p + 1 })
  at-here l p e f = cc

  pub linked-push : IsLinked new (linked (ref_of (shape t)) up-here links)
  linked-push = grind (arith, pushed-ref, still, fresh, at-here)

pub linked-finish : (ls : List (List Token)) (links : List Link) → length ls ≡ length links + 1 → IsLinked ls links
    → IsLinked ls (links ++ no_link ∷ [])
linked-finish ls links e old = grind (arith, refers-within, get_or_append_left)

pub linked-tied : (ls : List (List Token)) (links : List Link) → IsLinked ls links → IsTied ls
linked-tied ls links old = record {
  earlier = old.earlier;
  once = λ l p m q x h k. apart l p m q (sym (old.up l p x h) ∙ old.up m q x k);
}
  where
    apart : (l p m q : ℕ) → ◌≡◌ {A = Link} (record { list = l; place = p + 1 }) (record { list = m; place = q + 1 })
        → (l ≡ m) × (p ≡ q)
    apart l p m q e = (
      ap (λ (k : Link). k.list) e,
      (let f : p + 1 ≡ q + 1 = ap (λ (k : Link). k.place) e in
          omega arith),
    )

-- the finished lists alone
pub linked-lists : (ls : List (List Token)) (b : Option (List Token)) (links : List Link)
    → IsLinked (with_built ls b) links → IsLinked ls links
linked-lists ls b links old = grind (arith, nat_tests, common_steps, refers-old, refers-within)

-- references alone decide
pub linked-same : (old new : List (List Token)) (links : List Link) → ((l p : ℕ) → refers new l p ≡ refers old l p)
    → IsLinked old links → IsLinked new links
linked-same old new links same k = grind arith

pub refers-with : (old new : List (List Token)) (b : Option (List Token)) → length new ≡ length old → ((l p : ℕ)
    → refers new l p ≡ refers old l p) → (l p : ℕ) → refers (with_built new b) l p ≡ refers (with_built old b) l p
refers-with old new None len same l p = same l p
refers-with [] [] (Some ts) len same l p = refl
refers-with [] (y ∷ new) (Some ts) len same l p = cc
refers-with (x ∷ old) [] (Some ts) len same l p = cc
refers-with (x ∷ old) (y ∷ new) (Some ts) len same zero p = same 0 p
refers-with (x ∷ old) (y ∷ new) (Some ts) len same (suc l) p =
    refers-with old new (Some ts) (pred-is (length new) (length old) len) (λ m q. same (suc m) q) l p
  where
    pred-is : (a b : ℕ) → suc a ≡ suc b → a ≡ b
    pred-is a b k = cc
