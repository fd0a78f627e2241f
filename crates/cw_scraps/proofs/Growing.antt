-- A new list takes the place of some roots, to which it refers.
use Rattle.cw_scraps.proofs.Terms.{◌≡◌, ℕ, ◌+◌, ◌<◌, ◌≤◌, List, [], ◌∷◌, ◌++◌, length, take, drop, get_or, Some, ◌⊎◌}
use Rattle.cw_scraps.proofs.Terms.{inl, inr, refl, sym, ap, ◌∙◌, subst, arith, slice_get, length_push, map-append}
use Rattle.cw_scraps.proofs.Terms.{take-map, drop-map, drop_more, take-append-drop, Token, token_ref, refers, IsTied}
use Rattle.cw_scraps.proofs.Terms.{IsUnreferred, Reach, here, next, refers-within, refers-more, refers-old, reach-le}
use Rattle.cw_scraps.proofs.Terms.{LineEntry, roots_of, AreRoots, IsOutside}
use Rattle.cw_scraps.proofs.Splices.{spliced, Spliced, low, mid, high, splice}

-- the list to which a token of the new list refers, among the roots
pub record FromRoot (rs : List ℕ) (at n x : ℕ) : Type 0 where
  pub place : ℕ
  pub from_at : at ≤ place
  pub below_n : place < n
  pub is : x ≡ get_or rs place 0

module _ (old : List (List Token)) (ts : List Token) (rs : List ℕ) (at n : ℕ) (order : at ≤ n) (fits : n ≤ length rs)
    (tied : IsTied old) (roots : AreRoots old rs)
    (refs : (p x : ℕ) → token_ref (slice_get ts p) ≡ Some x → FromRoot rs at n x) where
  abbrev new : List (List Token)
  new = old ++ ts ∷ []

  size : length new ≡ length old + 1
  size = length_push old ts

  old-ref : (l p x : ℕ) → l < length old → refers new l p ≡ Some x → refers old l p ≡ Some x
  old-ref l p x h e = sym (refers-old old ts l p h) ∙ e

  -- what a list refers to is an earlier one, or one of the roots
  pub refers-cases : (l p x : ℕ) → refers new l p ≡ Some x → (refers old l p ≡ Some x)
      ⊎ ((l ≡ length old) × FromRoot rs at n x)
  refers-cases l p x e = elim (refers-more old ts l p x e) [ inl k ↦ inl k | inr k ↦ inr (k.0, refs p x k.1) ]

  root-below : (i : ℕ) → i < n → get_or rs i 0 < length old
  root-below i h = roots.there i (omega arith)

  pub grown-roots : AreRoots new (spliced rs at n (length old))
  grown-roots = record {
    there = λ i h. elim (splice rs at n (length old) i order fits h) [
      | low a e ↦ (let b : get_or rs i 0 < length old = root-below i (omega arith) in omega (arith, e, size))
      | mid a e ↦ omega (arith, e, size)
      | high j a b e s ↦ (let q : get_or rs j 0 < length old = roots.there j b in omega (arith, e, size))
    ];
    free = λ i h l p e. elim (splice rs at n (length old) i order fits h) [
      | low a f ↦ free-root i (omega arith) (inl a) l p (e ∙ ap Some f)
      | mid a f ↦ free-new l p (e ∙ ap Some f)
      | high j a b f s ↦ free-root j b (inr a) l p (e ∙ ap Some f)
    ];
    apart = λ i j hi hj e. same i j (splice rs at n (length old) i order fits hi)
        (splice rs at n (length old) j order fits hj) e;
  }
    where
      free-root : (i : ℕ) → i < length rs → (i < at) ⊎ (n ≤ i) → (l p : ℕ) → refers new l p ≡ Some (get_or rs i 0) → ⊥
      free-root i h out l p e = elim (refers-cases l p (get_or rs i 0) e) [
        | inl k ↦ roots.free i h l p k
        | inr k ↦
            let f : FromRoot rs at n (get_or rs i 0) = k.1 in
            let a : at ≤ f.place = f.from_at in
            let b : f.place < n = f.below_n in
            let same : i ≡ f.place = roots.apart i f.place h (omega arith) f.is in
            elim out [ inl c ↦ omega arith | inr c ↦ omega arith ]
      ]

      free-new : (l p : ℕ) → refers new l p ≡ Some (length old) → ⊥
      free-new l p e = elim (refers-cases l p (length old) e) [
        | inl k ↦ (let a : length old < l = tied.earlier l p (length old) k in
            let b : l < length old = refers-within old l p (length old) k in omega arith)
        | inr k ↦
            let f : FromRoot rs at n (length old) = k.1 in
            let b : get_or rs f.place 0 < length old = root-below f.place f.below_n in
            let e : length old ≡ get_or rs f.place 0 = f.is in
            omega arith
      ]

      same : (i j : ℕ) → Spliced rs at n (length old) i (get_or (spliced rs at n (length old)) i 0)
          → Spliced rs at n (length old) j (get_or (spliced rs at n (length old)) j 0)
          → get_or (spliced rs at n (length old)) i 0 ≡ get_or (spliced rs at n (length old)) j 0 → i ≡ j
      same i j (low a e) (low b f) q = roots.apart i j (omega arith) (omega arith) (sym e ∙ (q ∙ f))
      same i j (low a e) (mid b f) q = let h : get_or rs i 0 < length old = root-below i (omega arith) in
          let k : get_or rs i 0 ≡ length old = sym e ∙ (q ∙ f) in absurd (omega arith)
      same i j (low a e) (high v b w f s) q = let k : i ≡ v = roots.apart i v (omega arith) w (sym e ∙ (q ∙ f)) in
          absurd (omega arith)
      same i j (mid a e) (low b f) q = let h : get_or rs j 0 < length old = root-below j (omega arith) in
          let k : get_or rs j 0 ≡ length old = sym f ∙ (sym q ∙ e) in absurd (omega arith)
      same i j (mid a e) (mid b f) q = omega arith
      same i j (mid a e) (high v b w f s) q = let h : get_or rs v 0 < length old = roots.there v w in
          let k : get_or rs v 0 ≡ length old = sym f ∙ (sym q ∙ e) in absurd (omega arith)
      same i j (high u a w e s) (low b f) q = let k : u ≡ j = roots.apart u j w (omega arith) (sym e ∙ (q ∙ f)) in
          absurd (omega arith)
      same i j (high u a w e s) (mid b f) q = let h : get_or rs u 0 < length old = roots.there u w in
          let k : get_or rs u 0 ≡ length old = sym e ∙ (q ∙ f) in absurd (omega arith)
      same i j (high u a w e s) (high v b x f t) q = let k : u ≡ v = roots.apart u v w x (sym e ∙ (q ∙ f)) in
          omega arith

  reach-old : (a b : ℕ) → a < length old → Reach new a b → Reach old a b
  reach-old a b h here = here
  reach-old a b h (next l p m e r) =
      let back : Reach old a l = reach-old a l h r in
      let under : l ≤ a = reach-le old a l tied back in
      next l p b (old-ref l p b (omega arith) e) back

  -- from the new list the way goes on from one of its roots
  reach-first : (k : ℕ) → Reach new (length old) k
      → (k ≡ length old) ⊎ ((i : ℕ) × (at ≤ i) × (i < n) × Reach new (get_or rs i 0) k)
  reach-first k here = inl refl
  reach-first k (next l p m e r) = elim (reach-first l r) [
    | inl d ↦ elim (refers-cases l p k e) [
      | inl q ↦ (let b : l
          < length old = refers-within old l p k q in absurd (omega arith))
      | inr q ↦ inr (
        q.1.place,
        q.1.from_at,
        q.1.below_n,
        subst (λ x. Reach new x k) q.1.is here,
      )
    ]
    | inr s ↦ inr (s.0, s.1, s.2, next l p k e s.3)
  ]

  pub grown-outside : (k : ℕ) → IsOutside old rs k → IsOutside new (spliced rs at n (length old)) k
  grown-outside k o = grind (arith, size, splice, low, reach-old, mid, reach-le, high, root-below, reach-first)

  -- the new list refers to nothing outside
  pub grown-free : (k : ℕ) → IsOutside old rs k → IsUnreferred old k → IsUnreferred new k
  grown-free k o u l p e = elim (refers-cases l p k e) [
    | inl q ↦ u l p q
    | inr q ↦ o.below q.1.place
        (let h : q.1.place < n = q.1.below_n in omega arith) (subst (λ x. Reach old x k) q.1.is here)
  ]

-- the lists of a line in which entries are replaced
pub roots-replaced : (line : List LineEntry) (at n : ℕ) (made : LineEntry)
    → roots_of (take at line ++ made ∷ drop n line) ≡ spliced (roots_of line) at n made.list.index
roots-replaced line at n made = grind (arith, map-append, take-map, drop-map)

-- where a root takes its own place nothing changes
pub same-spliced : (rs : List ℕ) (at x : ℕ) → at < length rs → x ≡ get_or rs at 0 → spliced rs at (at + 1) x ≡ rs
same-spliced rs at x h e = grind (arith, drop_more, take-append-drop)
