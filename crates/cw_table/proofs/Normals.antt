-- Laws of the normal form, its log and its count.
use Rattle.cw_table.proofs.Terms.{◌≡◌, ℕ, zero, suc, ◌+◌, ◌*◌, ◌<◌, ◌≤◌, Bool, true, false, Option, Some, None, List}
use Rattle.cw_table.proofs.Terms.{[], ◌∷◌, length, drop, refl, sym, ◌∙◌, ap, arith, if◌then◌else◌, list_all, nat_tests}
use Rattle.cw_table.proofs.Terms.{both-left, both-right, Cat, Flags, Row, row_fits, first_of, row_is_sound, IsSound}
use Rattle.cw_table.proofs.Terms.{cats_of, State, rewrite, Place, Nowhere, At, least_place, next_place, weight, is_fine}
use Rattle.cw_table.proofs.Terms.{steps, Production, log_of}
use Rattle.cw_table.specs.Normal.{normal, log, count}
use Rattle.cw_table.proofs.{ScrapFacts.weight-most, ScrapFacts.cats-length, Falling.Falls, Falling.falls}
use Rattle.cw_table.proofs.{Soundness.sound-row}

-- the first row that fits is one of the table, and fits
pub record Found (rows : List Row) (cs : List Cat) (r : Row) : Type 0 where
  pub fits : row_fits r cs ≡ true
  pub sound : row_is_sound r ≡ true

pub first-found : (rows : List Row) (cs : List Cat) (r : Row) → list_all row_is_sound rows ≡ true → first_of rows cs
    ≡ Some r → Found rows cs r
first-found [] cs r all h = cc
first-found (x ∷ rows) cs r all h = go (λ k. first-found rows cs r (both-right (row_is_sound x) _ all) k)
    (row_fits x cs) refl h
  where
    go : (first_of rows cs ≡ Some r → Found rows cs r) → (b : Bool) → row_fits x cs ≡ b
        → (if b then Some x else first_of rows cs) ≡ Some r → Found (x ∷ rows) cs r
    go rec true e h =
        let same : x ≡ r = cc in
        record {
          fits = ap (λ y. row_fits y cs) (sym same) ∙ e;
          sound = ap row_is_sound (sym same) ∙ both-left (row_is_sound x) _ all;
        }
    go rec false e h = let k = rec h in record { fits = k.fits; sound = k.sound }

-- the least place, seen from the list
pub record Least (rows : List Row) (cs : List Cat) (first place : ℕ) (row : Row) : Type 0 where
  pub gone : ℕ
  pub place_is : place ≡ first + gone
  pub inside : gone < length cs
  pub found : first_of rows (drop gone cs) ≡ Some row
  pub none : (k : ℕ) → k < gone → first_of rows (drop k cs) ≡ None

pub least-at : (rows : List Row) (first : ℕ) (cs : List Cat) (place : ℕ) (row : Row) → least_place rows first cs
    ≡ At place row → Least rows cs first place row
least-at rows first [] place row h = cc
least-at rows first (c ∷ cs) place row h = go (λ k. least-at rows (suc first) cs place row k) (first_of rows (c ∷ cs))
    refl h
  where
    go : (least_place rows (suc first) cs ≡ At place row → Least rows cs (suc first) place row) → (o : Option Row)
        → first_of rows (c ∷ cs) ≡ o → elim o [ Some r ↦ At first r | None ↦ least_place rows (suc first) cs ]
        ≡ At place row → Least rows (c ∷ cs) first place row
    go rec (Some r) e h =
        let same : r ≡ row = cc in
        let at : first ≡ place = cc in
        record {
          gone = 0;
          place_is = omega arith;
          inside = omega arith;
          found = e ∙ ap Some same;
          none = λ k less. absurd (omega arith);
        }
    go rec None e h =
        let l = rec h in
        record {
          gone = suc l.gone;
          place_is = omega (arith, l.place_is);
          inside = omega (arith, l.inside);
          found = l.found;
          none = λ k. below l e k;
        }
      where
        below : (l : Least rows cs (suc first) place row) → first_of rows (c ∷ cs) ≡ None → (k : ℕ) → k < suc l.gone
            → first_of rows (drop k (c ∷ cs)) ≡ None
        below l e zero less = e
        below l e (suc k) less = l.none k (omega arith)

-- A production at the least place.
pub record Takes (rows : List Row) (f : Flags) (st : State) (i : ℕ) (r : Row) : Type 0 where
  pub is_sound : IsSound r
  pub found : first_of rows (drop i (cats_of st.scraps)) ≡ Some r
  pub fits : row_fits r (drop i (cats_of st.scraps)) ≡ true
  pub inside : i < length st.scraps
  pub none : (k : ℕ) → k < i → first_of rows (drop k (cats_of st.scraps)) ≡ None
  pub falls : Falls f r i st

pub takes : (rows : List Row) (f : Flags) (st : State) (i : ℕ) (r : Row) → list_all row_is_sound rows ≡ true
    → list_all is_fine st.scraps ≡ true → next_place rows st ≡ At i r → Takes rows f st i r
takes rows f st i r all fine h =
    let l = least-at rows 0 (cats_of st.scraps) i r h in
    let same : l.gone ≡ i = omega (arith, l.place_is) in
    let found : first_of rows (drop i (cats_of st.scraps)) ≡ Some r =
    ap (λ n. first_of rows (drop n (cats_of st.scraps))) (sym same) ∙ l.found in
    let first = first-found rows (drop i (cats_of st.scraps)) r all found in
    let s = sound-row r first.sound in
    let inside : i < length st.scraps = omega (arith, l.inside, cats-length st.scraps) in
    record {
      is_sound = s;
      found = found;
      fits = first.fits;
      inside = inside;
      none = λ k less. l.none k (omega (arith, same));
      falls = falls f r i st s first.fits fine (omega arith);
    }

-- one step of each recursion
pub steps-none : (rows : List Row) (f : Flags) (n : ℕ) (st : State) → next_place rows st ≡ Nowhere → steps rows f n st
    ≡ st
steps-none rows f zero st e = refl
steps-none rows f (suc n) st e = grind (arith, nat_tests)

pub steps-turn : (rows : List Row) (f : Flags) (n i : ℕ) (r : Row) (st : State) → next_place rows st ≡ At i r
    → steps rows f (suc n) st ≡ steps rows f n (rewrite f r i st)
steps-turn rows f n i r st e = grind (arith, nat_tests)

pub log-none-of : (rows : List Row) (f : Flags) (n : ℕ) (st : State) → next_place rows st ≡ Nowhere
    → log_of rows f n st ≡ []
log-none-of rows f zero st e = refl
log-none-of rows f (suc n) st e = grind (arith, nat_tests)

pub log-turn-of : (rows : List Row) (f : Flags) (n i : ℕ) (r : Row) (st : State) → next_place rows st ≡ At i r
    → log_of rows f (suc n) st ≡ record { number = r.number.number; place = i } ∷ log_of rows f n (rewrite f r i st)
log-turn-of rows f n i r st e = grind (arith, nat_tests)

-- a function of a number of productions that counts them down: more than the weight change nothing
pub more-same : (A : Type 0) (rows : List Row) (f : Flags) (g : ℕ → State → A) (next : State → ℕ → Row → A → A)
    (still : State → A) → ((n : ℕ) (st : State) → next_place rows st ≡ Nowhere → g n st ≡ still st) → ((n i : ℕ)
    (r : Row) (st : State) → next_place rows st ≡ At i r → g (suc n) st ≡ next st i r (g n (rewrite f r i st)))
    → (n m : ℕ) (st : State) → list_all row_is_sound rows ≡ true → list_all is_fine st.scraps ≡ true
    → weight st.scraps ≤ n → weight st.scraps ≤ m → g n st ≡ g m st
more-same A rows f g next still none turn zero m st all fine a b = go (next_place rows st) refl
  where
    go : (p : Place) → next_place rows st ≡ p → g zero st ≡ g m st
    go Nowhere e = none zero st e ∙ sym (none m st e)
    go (At i r) e = absurd (omega (arith, (takes rows f st i r all fine e).falls.lighter))
more-same A rows f g next still none turn (suc n) m st all fine a b =
    go (λ k s. more-same A rows f g next still none turn n k s all) m b (next_place rows st) refl
  where
    go : ((k : ℕ) (s : State) → list_all is_fine s.scraps ≡ true → weight s.scraps ≤ n → weight s.scraps ≤ k
        → g n s ≡ g k s) → (k : ℕ) → weight st.scraps ≤ k → (p : Place) → next_place rows st ≡ p → g (suc n) st ≡ g k st
    go rec k b Nowhere e = none (suc n) st e ∙ sym (none k st e)
    go rec zero b (At i r) e = absurd (omega (arith, (takes rows f st i r all fine e).falls.lighter))
    go rec (suc k) b (At i r) e =
        let t = (takes rows f st i r all fine e).falls in
        turn n i r st e ∙ ap (λ x. next st i r x) (rec k (rewrite f r i st) t.fine (omega (arith, t.lighter))
        (omega (arith, t.lighter))) ∙ sym (turn k i r st e)

pub steps-same : (rows : List Row) (f : Flags) (n m : ℕ) (st : State) → list_all row_is_sound rows ≡ true → list_all
    is_fine st.scraps ≡ true → weight st.scraps ≤ n → weight st.scraps ≤ m → steps rows f n st ≡ steps rows f m st
steps-same rows f = more-same State rows f (steps rows f) (λ s i r x. x) (λ st. st) (steps-none rows f)
    (steps-turn rows f)

log-same : (rows : List Row) (f : Flags) (n m : ℕ) (st : State) → list_all row_is_sound rows ≡ true → list_all is_fine
    st.scraps ≡ true → weight st.scraps ≤ n → weight st.scraps ≤ m → log_of rows f n st ≡ log_of rows f m st
log-same rows f = more-same (List Production) rows f (log_of rows f)
    (λ s i r x. record { number = r.number.number; place = i } ∷ x) (λ st. []) (log-none-of rows f) (log-turn-of rows f)

-- The normal form: where a row fits it is that of the rewritten list, and where none does it is the list itself.
pub normal-none : (rows : List Row) (f : Flags) (st : State) → next_place rows st ≡ Nowhere → normal rows f st ≡ st
unfolding normal
normal-none rows f st e = steps-none rows f (weight st.scraps) st e

pub normal-step : (rows : List Row) (f : Flags) (st : State) (i : ℕ) (r : Row) → list_all row_is_sound rows ≡ true
    → list_all is_fine st.scraps ≡ true → next_place rows st ≡ At i r → normal rows f st
    ≡ normal rows f (rewrite f r i st)
unfolding normal
normal-step rows f st i r all fine e =
    let t = (takes rows f st i r all fine e).falls in
    steps-same rows f (weight st.scraps) (suc (weight st.scraps)) st all fine (omega arith) (omega arith)
    ∙ steps-turn rows f (weight st.scraps) i r st e ∙ steps-same rows f (weight st.scraps)
    (weight (rewrite f r i st).scraps) (rewrite f r i st) all t.fine (omega (arith, t.lighter)) (omega arith)

pub log-none : (rows : List Row) (f : Flags) (st : State) → next_place rows st ≡ Nowhere → log rows f st ≡ []
unfolding log
log-none rows f st e = log-none-of rows f (weight st.scraps) st e

pub log-step : (rows : List Row) (f : Flags) (st : State) (i : ℕ) (r : Row) → list_all row_is_sound rows ≡ true
    → list_all is_fine st.scraps ≡ true → next_place rows st ≡ At i r → log rows f st
    ≡ record { number = r.number.number; place = i } ∷ log rows f (rewrite f r i st)
unfolding log
log-step rows f st i r all fine e =
    let t = (takes rows f st i r all fine e).falls in
    log-same rows f (weight st.scraps) (suc (weight st.scraps)) st all fine (omega arith) (omega arith)
    ∙ log-turn-of rows f (weight st.scraps) i r st e
    ∙ ap (λ ps. record { number = r.number.number; place = i } ∷ ps) (log-same rows f (weight st.scraps)
    (weight (rewrite f r i st).scraps) (rewrite f r i st) all t.fine (omega (arith, t.lighter)) (omega arith))

pub count-none : (rows : List Row) (f : Flags) (st : State) → next_place rows st ≡ Nowhere → count rows f st ≡ 0
unfolding count
count-none rows f st e = ap length (log-none rows f st e)

pub count-step : (rows : List Row) (f : Flags) (st : State) (i : ℕ) (r : Row) → list_all row_is_sound rows ≡ true
    → list_all is_fine st.scraps ≡ true → next_place rows st ≡ At i r → count rows f st
    ≡ suc (count rows f (rewrite f r i st))
unfolding count
count-step rows f st i r all fine e = ap length (log-step rows f st i r all fine e)

log-short : (rows : List Row) (f : Flags) (n : ℕ) (st : State) → length (log_of rows f n st) ≤ n
log-short rows f zero st = omega arith
log-short rows f (suc n) st = go (λ s. log-short rows f n s) (next_place rows st) refl
  where
    go : ((s : State) → length (log_of rows f n s) ≤ n) → (p : Place) → next_place rows st ≡ p
        → length (log_of rows f (suc n) st) ≤ suc n
    go rec Nowhere e = omega (arith, ap length (log-none-of rows f (suc n) st e))
    go rec (At i r) e = omega (arith, ap length (log-turn-of rows f n i r st e), rec (rewrite f r i st))

-- there are at most as many productions as the weight, and so at most eight for each scrap
pub count-weight : (rows : List Row) (f : Flags) (st : State) → count rows f st ≤ weight st.scraps
unfolding count log
count-weight rows f st = log-short rows f (weight st.scraps) st

pub count-most : (rows : List Row) (f : Flags) (st : State) → count rows f st ≤ 8 * length st.scraps
count-most rows f st = omega (arith, count-weight rows f st, weight-most st.scraps)

-- in the normal form no row fits, and every scrap is fine
pub record Ends (rows : List Row) (st : State) : Type 0 where
  pub done : next_place rows st ≡ Nowhere
  pub fine : list_all is_fine st.scraps ≡ true

ends-of : (rows : List Row) (f : Flags) (n : ℕ) (st : State) → list_all row_is_sound rows ≡ true
    → list_all is_fine st.scraps ≡ true → weight st.scraps ≤ n → Ends rows (steps rows f n st)
ends-of rows f zero st all fine a = go (next_place rows st) refl
  where
    go : (p : Place) → next_place rows st ≡ p → Ends rows st
    go Nowhere e = record { done = e; fine = fine }
    go (At i r) e = absurd (omega (arith, (takes rows f st i r all fine e).falls.lighter))
ends-of rows f (suc n) st all fine a = go (λ s. ends-of rows f n s all) (next_place rows st) refl
  where
    go : ((s : State) → list_all is_fine s.scraps ≡ true → weight s.scraps ≤ n → Ends rows (steps rows f n s))
        → (p : Place) → next_place rows st ≡ p → Ends rows (steps rows f (suc n) st)
    go rec Nowhere e = rw (steps-none rows f (suc n) st e) (record { done = e; fine = fine })
    go rec (At i r) e =
        let t = (takes rows f st i r all fine e).falls in
        rw (steps-turn rows f n i r st e) (rec (rewrite f r i st) t.fine (omega (arith, t.lighter)))

pub normal-ends : (rows : List Row) (f : Flags) (st : State) → list_all row_is_sound rows ≡ true
    → list_all is_fine st.scraps ≡ true → Ends rows (normal rows f st)
unfolding normal
normal-ends rows f st all fine = ends-of rows f (weight st.scraps) st all fine (omega arith)

pub normal-done : (rows : List Row) (f : Flags) (st : State) → list_all row_is_sound rows ≡ true
    → list_all is_fine st.scraps ≡ true → next_place rows (normal rows f st) ≡ Nowhere
normal-done rows f st all fine = (normal-ends rows f st all fine).done
