-- The log of the productions, one production after another.
use Rattle.std.proofs.Common.{◌≡◌, ℕ, zero, suc, ◌+◌, ◌<◌, Bool, true, false, eqb, Option, Some, List, [], ◌∷◌, ◌++◌}
use Rattle.std.proofs.Common.{take, slice_get, refl, sym, ◌∙◌, ap, arith, if◌then◌else◌}
use Rattle.std.specs.Prelude.{Result, OnErr}
use Rattle.std.proofs.Math.Seq.{take-length}
use Rattle.std.proofs.lemmas.Bool.{eqb-true}
use Rattle.cw_base.specs.declared.flags.Flags.{Flags}
use Rattle.cw_table.specs.declared.types.Row.{Row}
use Rattle.cw_table.specs.Normal.{Place, Nowhere, At, next_place, steps, Production, log_of, log, count, weight}
use Rattle.cw_table.specs.Productions.{productions}
use Rattle.cw_table.specs.Rewriting.{State, rewrite}
use Rattle.cw_table.specs.Rows.{row_numbered, row_of}
use Rattle.cw_table.proofs.Normals.{log-turn-of, steps-none, steps-turn}
use Rattle.std.proofs.lemmas.List.{append_assoc}
use Rattle.cw_rewrite.specs.Telling.{EndsWithin, StopsAt, WatchState, grown_by}

-- the row of a number has it
numbered-own : (rows : List Row) (n : ℕ) (row : Row) → row_numbered rows n ≡ Some row → row.number.number ≡ n
numbered-own [] n row e = absurd cc
numbered-own (r ∷ rows) n row e = go (λ k. numbered-own rows n row k) (eqb r.number.number n) refl e
  where
    go : (row_numbered rows n ≡ Some row → row.number.number ≡ n) → (b : Bool) → eqb r.number.number n ≡ b
        → (if b then Some r else row_numbered rows n) ≡ Some row → row.number.number ≡ n
    go rec true h k =
        let same : r ≡ row = cc in
        ap (λ (x : Row). x.number.number) (sym same) ∙ eqb-true r.number.number n h
    go rec false h k = rec k

pub numbered-number : (rows : List Row) (n : ℕ) → row_numbered rows n ≡ Some (row_of rows n)
    → (row_of rows n).number.number ≡ n
numbered-number rows n e = numbered-own rows n (row_of rows n) e

more-of : (rows : List Row) (f : Flags) (n fuel place : ℕ) (row : Row) (state : State) → n < fuel
    → next_place rows (steps rows f n state) ≡ At place row → take (suc n) (log_of rows f fuel state)
    ≡ take n (log_of rows f fuel state) ++ record { number = row.number.number; place = place } ∷ []
more-of rows f n zero place row state lt e = absurd (omega arith)
more-of rows f zero (suc k) place row state lt e = ap (take 1) (log-turn-of rows f k place row state e)
more-of rows f (suc n) (suc k) place row state lt e = go (λ i r at. more-of rows f n k place row (rewrite f r i state)
    (omega arith) (ap (next_place rows) (sym (steps-turn rows f n i r state at)) ∙ e)) (next_place rows state) refl
  where
    go : ((i : ℕ) (r : Row) → next_place rows state ≡ At i r → take (suc n) (log_of rows f k (rewrite f r i state))
        ≡ take n (log_of rows f k (rewrite f r i state)) ++ record { number = row.number.number; place = place } ∷ [])
        → (p : Place) → next_place rows state ≡ p → take (suc (suc n)) (log_of rows f (suc k) state)
        ≡ take (suc n) (log_of rows f (suc k) state) ++ record { number = row.number.number; place = place } ∷ []
    go rec Nowhere at =
        let same : next_place rows state ≡ At place row =
        ap (next_place rows) (sym (steps-none rows f (suc n) state at)) ∙ e in
        absurd cc
    go rec (At i r) at =
        let turn : log_of rows f (suc k) state ≡ record { number = r.number.number; place = i }
        ∷ log_of rows f k (rewrite f r i state) = log-turn-of rows f k i r state at in
        ap (take (suc (suc n))) turn
        ∙ (ap (λ l. record { number = r.number.number; place = i } ∷ l) (rec i r at)
        ∙ ap (λ l. l ++ record { number = row.number.number; place = place } ∷ []) (ap (take (suc n)) (sym turn)))

-- what a list has at a place where it grows
grown-at : {A : Type 0} (xs : List A) (n : ℕ) (x : A) → take (suc n) xs ≡ take n xs ++ x ∷ [] → slice_get xs n ≡ Some x
grown-at [] zero x e = absurd cc
grown-at [] (suc n) x e = absurd cc
grown-at (y ∷ xs) zero x e = let k : y ≡ x = cc in ap Some k
grown-at (y ∷ xs) (suc n) x e = grown-at xs n x (let k : take (suc n) xs ≡ take n xs ++ x ∷ [] = cc in k)

module _ (f : Flags) (start : State) (row : Row) (place done number : ℕ) (before : done < weight start.scraps)
    (at : next_place productions (steps productions f done start) ≡ At place row)
    (own : row.number.number ≡ number) where
  pub heard-more : take (done + 1) (log productions f start)
      ≡ take done (log productions f start) ++ record { number = number; place = place } ∷ []
  unfolding log
  heard-more = grind (arith, more-of)

  pub heard-next : slice_get (log productions f start) done ≡ Some (record { number = number; place = place })
  unfolding log
  heard-next = grown-at (log_of productions f (weight start.scraps) start) done
      (record { number = number; place = place }) (more-of productions f done (weight start.scraps) place row start
      before at ∙ ap (λ n. take done (log_of productions f (weight start.scraps) start)
      ++ record { number = n; place = place } ∷ []) own)

-- as many as there are productions are the whole log
whole-log : (f : Flags) (start : State) → take (count productions f start) (log productions f start)
    ≡ log productions f start
unfolding count
whole-log f start = take-length (log productions f start)

pub told-whole : (f : Flags) (start : State) (done : ℕ) (old : Option WatchState)
    {now : Option WatchState} → now ≡ grown_by (take done (log productions f start)) old
    → done ≡ count productions f start → now ≡ grown_by (log productions f start) old
told-whole f start done old told all = grind (arith, whole-log)

-- what is told of some, and then of one more
told-more : (xs ys : List Production) (o : Option WatchState) → grown_by ys (grown_by xs o) ≡ grown_by (xs ++ ys) o
told-more xs ys o = grind (arith, append_assoc)

pub told-next : (xs : List Production) (done : ℕ) (p : Production) (old : Option WatchState)
    {now new : Option WatchState} → take (done + 1) xs ≡ take done xs ++ p ∷ []
    → now ≡ grown_by (take done xs) old → new ≡ grown_by (p ∷ []) now → new ≡ grown_by (take (done + 1) xs) old
told-next xs done p old more before one = grind (arith, told-more)

-- what holds after each answer holds after want of memory
pub on-err : {T E : Type 0} (r : Result T E) (P : Type 0) → P → OnErr r P
on-err r P holds = grind arith

-- The state before a production that isn't done: it is refused, or memory is wanting before it was told or behind that.
module _ (f : Flags) (start was now : State) (before told : Option WatchState) (done : ℕ)
    (inside : done < count productions f start) (reached : was ≡ steps productions f done start)
    (same : now ≡ was) where
  pub stops-before : (refuses : Production → Bool) (next : Production)
      → slice_get (log productions f start) done ≡ Some next → refuses next ≡ true → {old : Option WatchState} → told
      ≡ old
      → old ≡ grown_by (take done (log productions f start)) before → StopsAt f start now before told refuses
  stops-before refuses next there refused kept heard = grind arith

  pub ends-before : {T E : Type 0} (r : Result T E) {old : Option WatchState} → told ≡ old
      → old ≡ grown_by (take done (log productions f start)) before → OnErr r (EndsWithin f start now before told)
  ends-before r kept heard = grind (arith, on-err)

  pub ends-behind : {T E : Type 0} (r : Result T E) → told ≡ grown_by (take (done + 1) (log productions f start)) before
      → OnErr r (EndsWithin f start now before told)
  ends-behind r heard = grind (arith, on-err)
