-- Common prefixes.
use Rattle.cw_logs.proofs.CheckTerms.{◌≡◌, ◌≢◌, ℕ, zero, suc, ◌+◌, ◌<◌, ◌≤◌, Bool, true, false, not, ◌&&◌, eqb, List}
use Rattle.cw_logs.proofs.CheckTerms.{[], ◌∷◌, ◌++◌, length, take, slice_get, Option, Some, None, IfSome, is_some, refl}
use Rattle.cw_logs.proofs.CheckTerms.{sym, ◌∙◌, ap, subst, arith, if◌then◌else◌, same_item, differs_from, refused_by}
use Rattle.cw_logs.proofs.CheckTerms.{common, LogPosition, Judges, StandsAt, StopsWithin, told_alone, verdict_of}
use Rattle.std.proofs.{Math.Seq.take-length, lemmas.Bool.eq-eqb, lemmas.Bool.eqb-true, lemmas.List.length-take-le}
use Rattle.cw_base.specs.declared.flags.Flags.{Flags}
use Rattle.cw_table.specs.{declared.types.Row.Row, Productions.productions, Reaching.IsAfter, Rewriting.State}
use Rattle.cw_table.specs.{Rewriting.rewrite}
use Rattle.cw_table.specs.Normal.{Place, Nowhere, At, next_place, Production, steps, log_of, log, count, normal, weight}
use Rattle.cw_table.proofs.Normals.{log-none-of, log-turn-of, steps-none, steps-turn}
use Rattle.cw_rewrite.specs.Reduction.{IsReduced, ReducerState, seen_in}
use Rattle.cw_rewrite.specs.declared.walk.Reduced.{Reduced}
use Rattle.cw_rewrite.specs.Telling.{EndsWithin, StopsAt, WatchState, grown_by}
use Rattle.cw_logs.specs.declared.checking.Verdict.{Verdict}
use Rattle.cw_logs.specs.declared.checking.Verdict.TheVariants.{Accepted, Rejected}

item-self : (p : Production) → same_item p p ≡ true
item-self p = ap (λ b. b && eqb p.place p.place) (eq-eqb p.number p.number refl) ∙ eq-eqb p.place p.place refl

-- a log of which the whole of another is a prefix
pub prefix-common : (ps : List Production) (n : ℕ) → n ≤ length ps → common ps (take n ps) ≡ n
prefix-common [] zero le = refl
prefix-common [] (suc n) le = absurd (omega arith)
prefix-common (p ∷ ps) zero le = refl
prefix-common (p ∷ ps) (suc n) le =
    ap (λ b. if b then suc (common ps (take n ps)) else 0) (item-self p) ∙ ap suc (prefix-common ps n (omega arith))

-- two that differ behind a common prefix
pub stop-common : (ps qs : List Production) (n : ℕ) (q : Production) → n ≤ length ps → take n ps ≡ take n qs
    → slice_get qs n ≡ Some q → refused_by ps n q ≡ true → common ps qs ≡ n
stop-common [] [] n q le e at other = absurd cc
stop-common [] (y ∷ qs) zero q le e at other = refl
stop-common [] (y ∷ qs) (suc n) q le e at other = absurd (omega arith)
stop-common (x ∷ ps) [] n q le e at other = absurd cc
stop-common (x ∷ ps) (y ∷ qs) zero q le e at other =
    let same : y ≡ q = cc in
    go (same_item x y) (ap (λ z. not (same_item x z)) same ∙ other)
  where
    go : (b : Bool) → not b ≡ true → (if b then suc (common ps qs) else 0) ≡ zero
    go true h = absurd cc
    go false h = refl
stop-common (x ∷ ps) (y ∷ qs) (suc n) q le e at other =
    let same : x ≡ y = cc in
    ap (λ z. if same_item x z then suc (common ps qs) else 0) (sym same) ∙ (ap (λ b. if b then suc (common ps qs) else
    0) (item-self x) ∙ ap suc (stop-common ps qs n q (omega arith) (let k : take n ps ≡ take n qs = cc in k) at other))

pub stop-differs : (ps qs : List Production) (n : ℕ) (q : Production) → slice_get qs n ≡ Some q
    → refused_by ps n q ≡ true → ps ≢ qs
stop-differs ps qs n q at other e =
    let k : slice_get ps n ≡ Some q = ap (λ l. slice_get l n) e ∙ at in
    let j : not (same_item q q) ≡ true = ap (λ o. differs_from o q) (sym k) ∙ other in
    let i : not true ≡ true = ap not (sym (item-self q)) ∙ j in
    cc

-- the next production of a log
pub next-taken : (ps : List Production) (n : ℕ) (q : Production) → not (refused_by ps n q) ≡ true
    → take (n + 1) ps ≡ take n ps ++ q ∷ []
next-taken ps n q h = ap (λ k. take k ps) (let k : n + 1 ≡ suc n = omega arith in k) ∙ go ps n h
  where
    same : (p : Production) → not (not (same_item p q)) ≡ true → p ≡ q
    same p h =
        let b : same_item p q ≡ true = twice (same_item p q) h in
        both p (eqb p.number q.number) (eqb p.place q.place) refl refl b
      where
        twice : (b : Bool) → not (not b) ≡ true → b ≡ true
        twice true e = refl
        twice false e = absurd cc

        both : (p : Production) (a b : Bool) → eqb p.number q.number ≡ a → eqb p.place q.place ≡ b → (a && b) ≡ true
            → p ≡ q
        both p true true d e h = ap (λ x. record { number = x; place = p.place }) (eqb-true p.number q.number d)
            ∙ ap (λ x. record { number = q.number; place = x }) (eqb-true p.place q.place e)
        both p true false d e h = absurd cc
        both p false b d e h = absurd cc

    go : (ps : List Production) (n : ℕ) → not (refused_by ps n q) ≡ true → take (suc n) ps ≡ take n ps ++ q ∷ []
    go [] n h = absurd cc
    go (p ∷ ps) zero h = ap (λ x. x ∷ []) (same p h)
    go (p ∷ ps) (suc n) h = ap (λ l. p ∷ l) (go ps n h)

pub next-inside : (ps : List Production) (n : ℕ) (q : Production) → not (refused_by ps n q) ≡ true → n < length ps
next-inside [] n q h = absurd cc
next-inside (p ∷ ps) zero q h = omega arith
next-inside (p ∷ ps) (suc n) q h = omega (arith, next-inside ps n q h)

pub record Stop (ps is : List Production) (at : ℕ) : Type 0 where
  pub done : ℕ
  pub inside : done < length is
  pub heard : take at ps ≡ take done is
  pub next : Production
  pub there : slice_get is done ≡ Some next
  pub refused : refused_by ps at next ≡ true

stop-at : (ps is : List Production) (at : ℕ) → at ≤ length ps → (s : Stop ps is at) → at ≡ s.done
stop-at ps is at le s = sym (length-take-le at ps le)
    ∙ (ap length s.heard ∙ length-take-le s.done is (omega (arith, s.inside)))

pub judged : (ps is : List Production) (at : ℕ) → at ≤ length ps → (ended : Bool) → (ended ≡ true → take at ps ≡ is)
    → (ended ≡ false → Stop ps is at) → Judges ps is (verdict_of ended (record { log = ps; at = at }))
judged ps is at le true all stop = go (eqb at (length ps)) refl
  where
    go : (b : Bool) → eqb at (length ps) ≡ b → Judges ps is (if b then Accepted else Rejected at)
    go true e = sym (take-length ps) ∙ (ap (λ n. take n ps) (sym (eqb-true at (length ps) e)) ∙ all refl)
    go false e = (
      λ k. let m : at ≡ length ps = sym (length-take-le at ps le) ∙ (ap length (all refl) ∙ ap length (sym k)) in
          let n : true ≡ false = sym (eq-eqb at (length ps) m) ∙ e in
          cc,
      sym (prefix-common ps at le) ∙ ap (common ps) (all refl),
    )
judged ps is at le false all stop =
    let s = stop refl in
    let same : at ≡ s.done = stop-at ps is at le s in (
      stop-differs ps is at s.next (ap (slice_get is) same ∙ s.there) s.refused,
      sym (stop-common ps is at s.next le (s.heard ∙ ap (λ n. take n is) (sym same))
          (ap (slice_get is) same ∙ s.there) s.refused),
    )

-- the normal form is what as many steps lead to as there are productions
stepped : (rows : List Row) (f : Flags) (n : ℕ) (st : State) → steps rows f (length (log_of rows f n st)) st
    ≡ steps rows f n st
stepped rows f zero st = refl
stepped rows f (suc n) st = go (λ i r. stepped rows f n (rewrite f r i st)) (next_place rows st) refl
  where
    go : ((i : ℕ) (r : Row) → steps rows f (length (log_of rows f n (rewrite f r i st))) (rewrite f r i st)
        ≡ steps rows f n (rewrite f r i st)) → (p : Place) → next_place rows st ≡ p
        → steps rows f (length (log_of rows f (suc n) st)) st ≡ steps rows f (suc n) st
    go rec Nowhere e = ap (λ l. steps rows f (length l) st) (log-none-of rows f (suc n) st e)
        ∙ sym (steps-none rows f (suc n) st e)
    go rec (At i r) e = ap (λ l. steps rows f (length l) st) (log-turn-of rows f n i r st e) ∙ (steps-turn rows f
        (length (log_of rows f n (rewrite f r i st))) i r st e ∙ (rec i r ∙ sym (steps-turn rows f n i r st e)))

pub counted : (f : Flags) (st : State) → steps productions f (length (log productions f st)) st
    ≡ normal productions f st
unfolding log normal
counted f st = stepped productions f (weight st.scraps) st

pub stands : (f : Flags) (start now : State) (ps : List Production) (at : ℕ) → at ≤ length ps → (ended : Bool)
    → (ended ≡ true → (take at ps ≡ log productions f start) × (now ≡ normal productions f start))
    → (ended ≡ false → (s : Stop ps (log productions f start) at) × (now ≡ steps productions f s.done start))
    → StandsAt f start now (verdict_of ended (record { log = ps; at = at }))
stands f start now ps at le true all stop = go (eqb at (length ps))
  where
    go : (b : Bool) → StandsAt f start now (if b then Accepted else Rejected at)
    go true = (all refl).1
    go false = (all refl).1 ∙ (sym (counted f start) ∙ ap (λ n. steps productions f n start)
        (ap length (sym (all refl).0) ∙ length-take-le at ps le))
stands f start now ps at le false all stop = (stop refl).1
    ∙ ap (λ n. steps productions f n start) (sym (stop-at ps (log productions f start) at le (stop refl).0))

-- what a walk against a log has found
pub record Found (f : Flags) (start now : State) (ps : List Production) (v : Verdict) : Type 0 where
  pub judges : Judges ps (log productions f start) v
  pub stands : StandsAt f start now v

counts : (f : Flags) (start : State) (n : ℕ) → n < count productions f start → n < length (log productions f start)
unfolding count
counts f start n lt = lt

-- what is told of the one text
abbrev items_in : Option WatchState → List Production
items_in None = []
items_in (Some told) = told.items

told-items : {xs ys : List Production} → told_alone xs ≡ grown_by ys (told_alone []) → xs ≡ ys
told-items e = ap items_in e

-- a line that was reduced is in its normal form
pub in-normal-form : (f : Flags) (old new : ReducerState) (o : Option Reduced)
    → IfSome o (λ done. IsReduced f old new done.productions)
    → IfSome o (λ done. seen_in new ≡ normal productions f (seen_in old))
in-normal-form f old new None h = h
in-normal-form f old new (Some done) h = h.normal_form

pub found : {A : Type 0} (f : Flags) (start now : State) (ps : List Production) (at : ℕ) → at ≤ length ps
    → (o : Option A) → IfSome o (λ x. told_alone (take at ps) ≡ grown_by (log productions f start) (told_alone []))
    → IfSome o (λ x. now ≡ normal productions f start) → (o ≡ None → StopsAt f start now (told_alone []) (told_alone
    (take at ps)) (refused_by ps at)) → Found f start now ps (verdict_of (is_some o) (record { log = ps; at = at }))
found f start now ps at le (Some x) told normal stop =
    let e : take at ps ≡ log productions f start = told-items told in
    record {
      judges = judged ps (log productions f start) at le true (λ k. e) (λ k. absurd cc);
      stands = stands f start now ps at le true (λ k. (e, normal)) (λ k. absurd cc);
    }
found f start now ps at le None told normal stop =
    let s = stop refl in
    let t : Stop ps (log productions f start) at = record {
      done = s.done;
      inside = counts f start s.done s.inside;
      heard = told-items s.heard;
      next = s.next;
      there = s.there;
      refused = s.refused;
    } in
    record {
      judges = judged ps (log productions f start) at le false (λ k. absurd cc) (λ k. t);
      stands = stands f start now ps at le false (λ k. absurd cc) (λ k. (t, s.is));
    }

pub settled : (f : Flags) (start now : State) (ps qs : List Production) (v w : Verdict) → Found f start now ps w
    → ps ≡ qs → v ≡ w → Found f start now qs v
settled f start now ps qs v w h e k =
    subst (λ x. Found f start now qs x) (sym k) (subst (λ x. Found f start now x w) e h)

-- as many productions as stand at the beginning of both
common-most : (ps is : List Production) (n : ℕ) → n ≤ length ps → n ≤ length is → take n ps ≡ take n is
    → n ≤ common ps is
common-most ps is zero le less e = omega arith
common-most [] is (suc n) le less e = absurd (omega arith)
common-most (p ∷ ps) [] (suc n) le less e = absurd (omega arith)
common-most (p ∷ ps) (q ∷ is) (suc n) le less e =
    let same : p ≡ q = cc in
    let more : n ≤ common ps is = common-most ps is n (omega arith) (omega arith)
    (let k : take n ps ≡ take n is = cc in k) in
    let whole : common (p ∷ ps) (q ∷ is) ≡ suc (common ps is) = ap (λ z. if same_item p z then suc
    (common ps is) else 0) (sym same) ∙ ap (λ b. if b then suc (common ps is) else 0) (item-self p) in
    omega (arith, more, whole)

counts-within : (f : Flags) (start : State) (n : ℕ) → n ≤ count productions f start
    → n ≤ length (log productions f start)
unfolding count
counts-within f start n le = le

-- a first part is as long as it is
take-as-long : (n : ℕ) (ps : List Production) → take (length (take n ps)) ps ≡ take n ps
take-as-long zero ps = refl
take-as-long (suc n) [] = refl
take-as-long (suc n) (p ∷ ps) = ap (λ l. p ∷ l) (take-as-long n ps)

take-within : (n : ℕ) (ps : List Production) → length (take n ps) ≤ length ps
take-within zero ps = omega arith
take-within (suc n) [] = omega arith
take-within (suc n) (p ∷ ps) = omega (arith, take-within n ps)

-- what a walk against a log has found that ended for want of memory
pub ended-within : (f : Flags) (start now : State) (ps qs : List Production) (at : ℕ) → IsAfter productions f start now
    → EndsWithin f start now (told_alone []) (told_alone (take at ps)) → ps ≡ qs → StopsWithin f start now qs
ended-within f start now ps qs at after e same =
    let is : List Production = log productions f start in
    let number : e.done ≡ after.number = after.only e.done (omega (arith, e.all, e.inside))
    (ap (λ (x : State). weight x.scraps) (sym e.is)) in
    let heard : take at ps ≡ take e.number is = told-items e.heard in
    let inside : e.number ≤ length is = counts-within f start e.number e.inside in
    let long : length (take at ps) ≡ e.number = ap length heard ∙ length-take-le e.number is inside in
    let most : e.number ≤ common ps is = common-most ps is e.number (omega (arith, take-within at ps, long)) inside
    (ap (λ n. take n ps) (sym long) ∙ (take-as-long at ps ∙ heard)) in
    record {
      after = after;
      within = rw (← same) (let k : after.number ≤ common ps is = omega (arith, number, e.all, most) in k);
    }

pub seen-taken : (x y : LogPosition) (q : Production) → x ≡ y → not (refused_by y.log y.at q) ≡ true
    → told_alone (take (x.at + 1) x.log) ≡ told_alone (take y.at y.log ++ q ∷ [])
seen-taken x y q e h = ap (λ z. told_alone (take (z.at + 1) z.log)) e ∙ ap told_alone (next-taken y.log y.at q h)
