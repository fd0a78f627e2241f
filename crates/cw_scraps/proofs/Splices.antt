-- The lists of a line in which some entries are replaced by one.
use Rattle.cw_scraps.proofs.Terms.{◌≡◌, ℕ, zero, suc, ◌+◌, ◌-◌, ◌<◌, ◌≤◌, List, [], ◌∷◌, ◌++◌, length, map, take, drop}
use Rattle.cw_scraps.proofs.Terms.{get_or, Option, Some, None, ◌⊎◌, inl, inr, sym, ap, ◌∙◌, subst, arith, slice_get}
use Rattle.cw_scraps.proofs.Terms.{get_or-take, get_or-drop, get_or_append_left, get_or-append_right, length-append}
use Rattle.cw_scraps.proofs.Terms.{length-take-le, length-drop, cases_lt, cases_eq, MathMode, after, Piece, scraps_in}
use Rattle.cw_scraps.proofs.Terms.{numbers_from, Token, shape, ref_of, token_ref, LineEntry, no_entry, inserting}
use Rattle.cw_scraps.proofs.Terms.{toggle, tokens_of}
use Rattle.cw_scraps.proofs.Buildings.{Kind, scrap, sign, kind, Goes, goes}

abbrev pub spliced : List ℕ → ℕ → ℕ → ℕ → List ℕ
spliced rs at n x = take at rs ++ x ∷ drop n rs

-- an item of the new list is one before, the new one, or one behind
pub data Spliced (rs : List ℕ) (at n x i y : ℕ) : Type 0 where
  low : i < at → y ≡ get_or rs i 0 → Spliced rs at n x i y
  mid : i ≡ at → y ≡ x → Spliced rs at n x i y
  high : (j : ℕ) → n ≤ j → j < length rs → y ≡ get_or rs j 0 → i + n ≡ j + at + 1 → Spliced rs at n x i y

pub splice : (rs : List ℕ) (at n x i : ℕ) → at ≤ n → n ≤ length rs → i < length (spliced rs at n x)
    → Spliced rs at n x i (get_or (spliced rs at n x) i 0)
splice rs at n x i h k lt =
    let front : length (take at rs) ≡ at = length-take-le at rs (omega arith) in
    elim (cases_lt i at) [
      | inl a ↦ low a (get_or_append_left (take at rs) (x ∷ drop n rs) 0 i (omega arith) ∙ get_or-take at rs i 0 a)
      | inr b ↦ elim (cases_eq i at) [
        | inl e ↦ mid e (get_or-append_right (take at rs) (x ∷ drop n rs) at i 0 front b
            ∙ zero-of (i - at) (omega arith))
        | inr ne ↦
            let all : length (spliced rs at n x) ≡ length (take at rs) + suc (length (drop n rs)) =
            length-append (take at rs) (x ∷ drop n rs) in
            let step : i - at ≡ suc (i - at - 1) = omega arith in
            let place : n + (i - at - 1) ≡ (i + n) - (at + 1) = omega arith in
            high ((i + n) - (at + 1)) (omega arith) (omega (arith, length-drop n rs, all)) (get_or-append_right
            (take at rs) (x ∷ drop n rs) at i 0 front b ∙ (ap (λ m. get_or (x ∷ drop n rs) m 0) step
            ∙ (get_or-drop n rs (i - at - 1) 0 ∙ ap (λ m. get_or rs m 0) place))) (omega arith)
      ]
    ]
  where
    zero-of : (m : ℕ) → m ≡ 0 → get_or (x ∷ drop n rs) m 0 ≡ x
    zero-of m e = ap (λ q. get_or (x ∷ drop n rs) q 0) e

-- a token of a new list refers to one of its scraps
pub record FromScrap (entries : List LineEntry) (first more x : ℕ) : Type 0 where
  pub number : ℕ
  pub low : first ≤ number
  pub high : number < first + more
  pub is : x ≡ (get_or entries number no_entry).list.index

toggle-ref : (mode left : MathMode) (ts : List Token) (p x : ℕ) → token_ref (slice_get (toggle mode left ++ ts) p)
    ≡ Some x → (q : ℕ) × (token_ref (slice_get ts q) ≡ Some x)
toggle-ref mode left ts p x e = grind arith

pub tokens-ref : (entries : List LineEntry) (mode : MathMode) (pieces : List Piece) (first more p x : ℕ)
    → scraps_in pieces ≡ numbers_from first more → token_ref (slice_get
    (tokens_of mode (map (inserting entries) pieces)) p) ≡ Some x → FromScrap entries first more x
tokens-ref entries mode [] first more p x run e = grind arith
tokens-ref entries mode (q ∷ pieces) first more p x run e = go (kind entries q)
    (toggle-ref mode (inserting entries q).left ((inserting entries q).token ∷ tokens_of
    (after mode (inserting entries q).left (inserting entries q).right) (map (inserting entries) pieces)) p x e) (λ f m
    n r k. tokens-ref entries (after mode (inserting entries q).left (inserting entries q).right) pieces f m n x r k)
  where
    rest : List Token
    rest = tokens_of (after mode (inserting entries q).left (inserting entries q).right)
        (map (inserting entries) pieces)

    some-is : (a b : ℕ) → Some a ≡ Some b → a ≡ b
    some-is a b k = cc

    none-some : (a : ℕ) → ◌≡◌ {A = Option ℕ} None (Some a) → ⊥
    none-some a k = cc

    more-low : (f m : ℕ) → FromScrap entries (suc f) m x → FromScrap entries f (suc m) x
    more-low f m s =
        let a : suc f ≤ s.number = s.low in
        let b : s.number < suc f + m = s.high in
        record { number = s.number; low = omega arith; high = omega arith; is = s.is }

    at-first : (g : ℕ) → ref_of (shape (inserting entries q).token) ≡ Some (get_or entries g no_entry).list.index
        → (f m : ℕ) → g ≡ f → ref_of (shape (inserting entries q).token) ≡ Some x → FromScrap entries f (suc m) x
    at-first g ref f m is k = record {
      number = g;
      low = omega arith;
      high = omega arith;
      is = sym (some-is _ _ (sym ref ∙ k));
    }

    find : (n : ℕ) → token_ref (slice_get ((inserting entries q).token ∷ tokens_of (after mode
        (inserting entries q).left (inserting entries q).right) (map (inserting entries) pieces)) n) ≡ Some x → (ref_of
        (shape (inserting entries q).token) ≡ Some x) ⊎ ((m : ℕ) × (token_ref (slice_get (tokens_of (after mode
        (inserting entries q).left (inserting entries q).right) (map (inserting entries) pieces)) m) ≡ Some x))
    find zero k = inl k
    find (suc n) k = inr (n, k)

    go : Kind entries q → (n : ℕ) × (token_ref (slice_get ((inserting entries q).token ∷ tokens_of (after mode
        (inserting entries q).left (inserting entries q).right) (map (inserting entries) pieces)) n) ≡ Some x)
        → ((f m n : ℕ) → scraps_in pieces ≡ numbers_from f m → token_ref
        (slice_get (tokens_of (after mode (inserting entries q).left (inserting entries q).right)
        (map (inserting entries) pieces)) n) ≡ Some x → FromScrap entries f m x) → FromScrap entries first more x
    go (sign skip ref within) at rec = elim (find at.0 at.1) [
      | inl k ↦ absurd (none-some x (sym ref ∙ k))
      | inr k ↦ rec first more k.0 (sym (skip pieces) ∙ run) k.1
    ]
    go (scrap g skip ref within) at rec =
        let s : Goes g first more (scraps_in pieces) = goes g first more (scraps_in pieces) (sym (skip pieces) ∙ run) in
        subst (λ m. FromScrap entries first m x) (sym s.more_is) (elim (find at.0 at.1) [
          | inl k ↦ at-first g ref first s.fewer s.first_is k
          | inr k ↦ more-low first s.fewer (rec (suc first) s.fewer k.0 s.run k.1)
        ])
