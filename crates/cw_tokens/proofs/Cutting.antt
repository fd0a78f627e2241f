-- The lists that the ends cut out of one vector of tokens.
use Rattle.cw_tokens.proofs.Terms.{◌≡◌, ℕ, zero, suc, ◌+◌, ◌-◌, ◌<◌, ◌≤◌, List, [], ◌∷◌, ◌++◌, length, take, drop, set}
use Rattle.cw_tokens.proofs.Terms.{get_or, refl, sym, ap, ◌∙◌, arith, take-append-le, drop-append-le, drop-drop}
use Rattle.cw_tokens.proofs.Terms.{drop-set-lt, drop-set-add, take-set-le, length-take, length-drop, take_all, Token}
use Rattle.cw_tokens.proofs.Terms.{cut, last_end, start_of, IsAscending}

pub length-cut : (start : ℕ) (es : List ℕ) (ts : List Token) → length (cut start es ts) ≡ length es
length-cut start [] ts = refl
length-cut start (e ∷ es) ts = ap suc (length-cut e es (drop (e - start) ts))

pub last_end-le : (start : ℕ) (es : List ℕ) → IsAscending start es → start ≤ last_end start es
last_end-le start [] a = omega arith
last_end-le start (e ∷ es) a = grind (arith, last_end-le e es a.1)

cons : {A : Type 0} (x y : A) (xs ys : List A) → x ≡ y → xs ≡ ys → ◌≡◌ {A = List A} (x ∷ xs) (y ∷ ys)
cons x y xs ys e f = cc

-- a token behind the last end is in none of them
pub cut-push : (start : ℕ) (es : List ℕ) (ts : List Token) (t : Token) → IsAscending start es
    → last_end start es ≤ start + length ts → cut start es (ts ++ t ∷ []) ≡ cut start es ts
cut-push start [] ts t a w = refl
cut-push start (e ∷ es) ts t a w =
    let low : start ≤ e = a.0 in
    let high : e ≤ last_end e es = last_end-le e es a.1 in
    let fits : e - start ≤ length ts = omega arith in
    let rest : last_end e es ≤ e + length (drop (e - start) ts) = omega (arith, length-drop (e - start) ts) in
    cons _ _ _ _ (take-append-le (e - start) ts (t ∷ []) fits) (ap (λ us. cut e es us)
    (drop-append-le (e - start) ts (t ∷ []) fits) ∙ cut-push e es (drop (e - start) ts) t a.1 rest)

drop-two : (s m n : ℕ) (us : List Token) → s ≤ m → m ≤ n → drop (n - m) (drop (m - s) us) ≡ drop (n - s) us
drop-two s m n us h k = grind (arith, drop-drop)

-- one end more cuts off what was behind the last one
pub cut-finish : (start : ℕ) (es : List ℕ) (ts : List Token) (e : ℕ) → IsAscending start es
    → last_end start es ≤ start + length ts → e ≡ start + length ts → cut start (es ++ e ∷ []) ts
    ≡ cut start es ts ++ drop (last_end start es - start) ts ∷ []
cut-finish start [] ts e a w h = grind (arith, cons, take_all)
cut-finish start (x ∷ es) ts e a w h =
    let high : x ≤ last_end x es = last_end-le x es a.1 in
    let end : e ≡ x + length (drop (x - start) ts) = omega (arith, length-drop (x - start) ts) in
    let same : drop (last_end x es - x) (drop (x - start) ts) ≡ drop (last_end x es - start) ts = drop-two start x
    (last_end x es) ts a.0 high in
    cons _ _ _ _ refl (cut-finish x es (drop (x - start) ts) e a.1 (omega (arith, length-drop (x - start) ts)) end
    ∙ ap (λ us. cut x es (drop (x - start) ts) ++ us ∷ []) same)

pub ascending-finish : (start : ℕ) (es : List ℕ) (e : ℕ) → IsAscending start es → last_end start es ≤ e
    → IsAscending start (es ++ e ∷ [])
ascending-finish start [] e a h = (h, tt)
ascending-finish start (x ∷ es) e a h = (a.0, ascending-finish x es e a.1 h)

pub last_end-finish : (start : ℕ) (es : List ℕ) (e : ℕ) → last_end start (es ++ e ∷ []) ≡ e
last_end-finish start [] e = refl
last_end-finish start (x ∷ es) e = last_end-finish x es e

pub start_of-zero : (start : ℕ) (es : List ℕ) → start_of start es 0 ≡ start
start_of-zero start [] = refl
start_of-zero start (e ∷ es) = refl

pub start_of-suc : (start : ℕ) (es : List ℕ) (i : ℕ) → suc i < length es → start_of start es (suc i) ≡ get_or es i 0
start_of-suc start [] i h = absurd (omega arith)
start_of-suc start (e ∷ []) i h = absurd (omega arith)
start_of-suc start (e ∷ x ∷ es) zero h = refl
start_of-suc start (e ∷ x ∷ es) (suc i) h = start_of-suc e (x ∷ es) i (omega arith)

-- where a list begins and ends
pub record Spans (start : ℕ) (es : List ℕ) (i : ℕ) : Type 0 where
  pub low : start ≤ start_of start es i
  pub order : start_of start es i ≤ get_or es i 0
  pub high : get_or es i 0 ≤ last_end start es

pub spans : (start : ℕ) (es : List ℕ) (i : ℕ) → IsAscending start es → i < length es → Spans start es i
spans start [] i a h = absurd (omega arith)
spans start (e ∷ es) zero a h = grind (arith, last_end-le)
spans start (e ∷ es) (suc i) a h = grind (arith, spans e es i a.1 (omega arith))

-- the tokens of a list
pub get_or-cut : (start : ℕ) (es : List ℕ) (ts : List Token) (i : ℕ) → IsAscending start es → i < length es
    → get_or (cut start es ts) i [] ≡ take (get_or es i 0 - start_of start es i) (drop (start_of start es i - start) ts)
get_or-cut start [] ts i a h = absurd (omega arith)
get_or-cut start (e ∷ es) ts zero a h = grind arith
get_or-cut start (e ∷ es) ts (suc i) a h =
    grind (arith, get_or-cut e es (drop (e - start) ts) i a.1 (omega arith), spans, drop-two)

pub start_of-first : (es : List ℕ) (i : ℕ) → i ≡ 0 → 0 ≡ start_of 0 es i
start_of-first es i e = sym (ap (start_of 0 es) e ∙ start_of-zero 0 es)

pub start_of-later : (es : List ℕ) (i : ℕ) → (i ≡ 0 → ⊥) → i < length es → get_or es (i - 1) 0 ≡ start_of 0 es i
start_of-later es zero h lt = absurd (h refl)
start_of-later es (suc i) h lt = grind (arith, start_of-suc)

pub list-is : (es : List ℕ) (ts : List Token) (i start : ℕ) → IsAscending 0 es → i < length es → start ≡ start_of 0 es i
    → take (get_or es i 0 - start) (drop start ts) ≡ get_or (cut 0 es ts) i []
list-is es ts i start a lt e = grind (arith, get_or-cut)

take-set-in : (n : ℕ) (ts : List Token) (p : ℕ) (u : Token) → take n (set ts p u) ≡ set (take n ts) p u
take-set-in (suc n) (t ∷ ts) (suc p) u = ap (λ us. t ∷ us) (take-set-in n ts p u)
take-set-in _ _ _ _ = refl

-- a token that is written in the vector is written in its list
pub cut-set : (start : ℕ) (es : List ℕ) (ts : List Token) (i p k : ℕ) (u : Token) → IsAscending start es → i < length es
    → p < length (get_or (cut start es ts) i []) → k + start ≡ start_of start es i + p
    → cut start es (set ts k u) ≡ set (cut start es ts) i (set (get_or (cut start es ts) i []) p u)
cut-set start [] ts i p k u a h lt e = absurd (omega arith)
cut-set start (x ∷ es) ts zero p k u a h lt e = grind (arith, length-take, cons, take-set-in, drop-set-lt)
cut-set start (x ∷ es) ts (suc i) p k u a h lt e =
    let s : Spans x es i = spans x es i a.1 (omega arith) in
    let split : k ≡ (x - start) + (k - (x - start)) = omega arith in
    let rest : (k - (x - start)) + x ≡ start_of x es i + p = omega arith in
    cons _ _ _ _ (take-set-le (x - start) ts k u (omega arith))
    (ap (cut x es) (ap (λ j. drop (x - start) (set ts j u)) split ∙ drop-set-add (x - start) ts (k - (x - start)) u)
    ∙ cut-set x es (drop (x - start) ts) i p (k - (x - start)) u a.1 (omega arith) lt rest)

-- no list is longer than all of them
pub cut-short : (start : ℕ) (es : List ℕ) (ts : List Token) (i : ℕ) → length (get_or (cut start es ts) i []) ≤ length ts
cut-short start [] ts i = omega arith
cut-short start (e ∷ es) ts zero = omega (arith, length-take (e - start) ts)
cut-short start (e ∷ es) ts (suc i) = omega (arith, cut-short e es (drop (e - start) ts) i, length-drop (e - start) ts)
