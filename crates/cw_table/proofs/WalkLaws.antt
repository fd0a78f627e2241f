-- The walk with a pointer makes the productions of the leftmost-first rewriting.
use Rattle.cw_table.proofs.Terms.{◌≡◌, ℕ, zero, suc, ◌+◌, ◌-◌, ◌<◌, ◌≤◌, ◌⊎◌, inl, inr, Bool, true, false, ltb, Option}
use Rattle.cw_table.proofs.Terms.{Some, None, List, [], ◌∷◌, length, drop, refl, sym, ◌∙◌, ap, arith, ltb-true}
use Rattle.cw_table.proofs.Terms.{ltb-false, if◌then◌else◌, list_all, nat_tests, Cat, Flags, Row, first_of, least}
use Rattle.cw_table.proofs.Terms.{row_is_sound, cats_of, State, rewrite, SafeReachesFar, Nowhere, At, least_place}
use Rattle.cw_table.proofs.Terms.{next_place, is_fine, normal, Production, log, walk_left, walk_of, walked_of}
use Rattle.cw_table.specs.NormalWalk.{walk_log, walked}
use Rattle.cw_table.proofs.Normals.{Takes, takes, normal-none, normal-step, log-none, log-step}
use Rattle.cw_table.proofs.RewrittenCats.{rewritten-cats, right-kept, right_after}
use Rattle.cw_table.proofs.SafeLaws.{safe-sound, least-safe, least-at-most}
use Rattle.cw_table.proofs.ScrapFacts.{cats-length}

-- no row fits below a place
abbrev pub NoneBelow : List Row → State → ℕ → Type 0
NoneBelow rows st place = (k : ℕ) → k < place → first_of rows (drop k (cats_of st.scraps)) ≡ None

-- a row that fits here, where none fits below, is at the least place
next-here : (rows : List Row) (first : ℕ) (cs : List Cat) (place : ℕ) (r : Row) → place < length cs
    → ((k : ℕ) → k < place → first_of rows (drop k cs) ≡ None) → first_of rows (drop place cs) ≡ Some r
    → least_place rows first cs ≡ At (first + place) r
next-here rows first [] place r h below found = absurd (omega arith)
next-here rows first (c ∷ cs) zero r h below found = grind (arith, nat_tests)
next-here rows first (c ∷ cs) (suc place) r h below found = ap (λ (o : Option Row). elim o
    [ Some q ↦ At first q | None ↦ least_place rows (suc first) cs ]) (below 0 (omega arith)) ∙ next-here rows
    (suc first) cs place r (omega arith) (λ k less. below (suc k) (omega arith)) found ∙ ap (λ n. At n r) (omega arith)

pub next-nowhere : (rows : List Row) (first : ℕ) (cs : List Cat)
    → ((k : ℕ) → k < length cs → first_of rows (drop k cs) ≡ None) → least_place rows first cs ≡ Nowhere
next-nowhere rows first [] below = refl
next-nowhere rows first (c ∷ cs) below = ap (λ (o : Option Row). elim o [
  | Some q ↦ At first q
  | None ↦ least_place rows
      (suc first) cs
]) (below 0 (omega arith)) ∙ next-nowhere rows (suc first) cs (λ k less. below (suc k) (omega arith))

-- a safe distance is safe for scraps, with what a row reserves to the right
pub safe-far : SafeReachesFar
safe-far rows f st place r distance lower all is_least is_safe lt =
    grind (arith, nat_tests, rewritten-cats, safe-sound, right_after, right-kept)

-- A turn that rewrites: all that it needs before, and all that holds after it.
pub record Turns (rows : List Row) (f : Flags) (st : State) (place : ℕ) (r : Row) : Type 0 where
  pub next : next_place rows st ≡ At place r
  pub takes : Takes rows f st place r
  pub below : NoneBelow rows (rewrite f r place st) (place - least rows r)
  pub less : walk_left (place - least rows r) (rewrite f r place st) < walk_left place st

pub turning : (rows : List Row) (f : Flags) (st : State) (place : ℕ) (r : Row) → list_all row_is_sound rows ≡ true
    → list_all is_fine st.scraps ≡ true → NoneBelow rows st place → place < length st.scraps
    → first_of rows (drop place (cats_of st.scraps)) ≡ Some r → Turns rows f st place r
turning rows f st place r all fine below inside found =
    let long = cats-length st.scraps in
    let next : next_place rows st ≡ At place r = next-here rows 0 (cats_of st.scraps) place r (omega arith) below found
    ∙ ap (λ n. At n r) (omega arith) in
    let t = takes rows f st place r all fine next in
    let safe = safe-sound rows r all (least rows r) place in
    record {
      next = next;
      takes = t;
      below = λ k less. ap (λ cs. first_of rows (drop k cs)) (rewritten-cats f r place st)
          ∙ safe k (cats_of st.scraps) (cats_of (right_after r (drop place st.scraps))) (least-safe rows r)
          (record { fits = found; none_below = below }) (right-kept r place st) (omega arith);
      less = omega (arith, t.falls.lighter, t.falls.shorter, t.falls.some, least-at-most rows r);
    }

pub lt-or-is : (k n : ℕ) → k < suc n → (k < n) ⊎ (k ≡ n)
lt-or-is k n h = grind (arith, nat_tests, ltb-true, ltb-false)

-- one step of the two recursions
abbrev pub step_of : {A : Type 0} → Bool → Option Row → A → A → (Row → A) → A
step_of inside found ended passed turned = if inside then elim found [ None ↦ passed | Some row ↦ turned row ]
    else ended

pub step-is : {A : Type 0} (inside : Bool) (found : Option Row) (b : Bool) (o : Option Row) (ended passed : A) (turned
    : Row → A) → inside ≡ b → found ≡ o → step_of inside found ended passed turned ≡ step_of b o ended passed turned
step-is inside found b o ended passed turned e g = grind (arith, nat_tests)

-- what a walk gives, seen from the productions
walk-gives : (A : Type 0) (rows : List Row) (f : Flags) (g : ℕ → ℕ → State → A) (still : State → A) (more : ℕ → Row → A
    → A) (goal : State → A) → ((n place : ℕ) (st : State) → g (suc n) place st ≡ step_of (ltb place (length st.scraps))
    (first_of rows (drop place (cats_of st.scraps))) (still st) (g n (suc place) st) (λ r. more place r (g n (place -
    least rows r) (rewrite f r place st)))) → ((st : State) → next_place rows st ≡ Nowhere → goal st ≡ still st)
    → ((st : State) (place : ℕ) (r : Row) → list_all is_fine st.scraps ≡ true → next_place rows st ≡ At place r → goal
    st ≡ more place r (goal (rewrite f r place st))) → list_all row_is_sound rows ≡ true → (n place : ℕ) (st : State)
    → list_all is_fine st.scraps ≡ true → NoneBelow rows st place → walk_left place st < n → g n place st ≡ goal st
walk-gives A rows f g still more goal unfolds ends turns_to all zero place st fine below left = absurd (omega arith)
walk-gives A rows f g still more goal unfolds ends turns_to all (suc n) place st fine below left =
    go (ltb place (length st.scraps)) (first_of rows (drop place (cats_of st.scraps))) refl refl
    (λ q s. walk-gives A rows f g still more goal unfolds ends turns_to all n q s)
  where
    go : (b : Bool) (o : Option Row) → ltb place (length st.scraps) ≡ b → first_of rows (drop place (cats_of st.scraps))
        ≡ o → ((q : ℕ) (s : State) → list_all is_fine s.scraps ≡ true → NoneBelow rows s q → walk_left q s < n
        → g n q s ≡ goal s) → g (suc n) place st ≡ goal st
    go false o e found rec =
        let past : length st.scraps ≤ place = ltb-false _ _ e in
        let long = cats-length st.scraps in
        unfolds n place st ∙ step-is (ltb place (length st.scraps)) (first_of rows (drop place (cats_of st.scraps)))
        false o (still st) _ _ e found
        ∙ sym (ends st (next-nowhere rows 0 (cats_of st.scraps) (λ k less. below k (omega arith))))
    go true None e found rec =
        let inside : place < length st.scraps = ltb-true _ _ e in
        unfolds n place st ∙ step-is (ltb place (length st.scraps)) (first_of rows (drop place (cats_of st.scraps)))
        true None (still st) _ _ e found
        ∙ rec (suc place) st fine (λ k less. elim (lt-or-is k place less) [
          | inl lower ↦ below k lower
          | inr same ↦ ap (λ m. first_of rows (drop m (cats_of st.scraps))) same ∙ found
        ]) (omega arith)
    go true (Some r) e found rec =
        let inside : place < length st.scraps = ltb-true _ _ e in
        let t = turning rows f st place r all fine below inside found in
        unfolds n place st ∙ step-is (ltb place (length st.scraps)) (first_of rows (drop place (cats_of st.scraps)))
        true (Some r) (still st) _ _ e found
        ∙ ap (more place r) (rec (place - least rows r) (rewrite f r place st) t.takes.falls.fine t.below
        (omega (arith, t.less)))
        ∙ sym (turns_to st place r fine t.next)

-- The log of the walk, with the least safe distances, is the log of the leftmost-first productions.
pub walk-log : (rows : List Row) (f : Flags) (st : State) → list_all row_is_sound rows ≡ true
    → list_all is_fine st.scraps ≡ true → walk_log rows f (least rows) 0 st ≡ log rows f st
unfolding walk_log
walk-log rows f st all fine = walk-gives (List Production) rows f (walk_of rows f (least rows)) (λ s. [])
    (λ i r ps. record { number = r.number.number; place = i } ∷ ps) (log rows f) (λ n place s. refl) (log-none rows f)
    (λ s place r fine next. log-step rows f s place r all fine next) all (suc (walk_left 0 st)) 0 st fine
    (λ k less. absurd (omega arith)) (omega arith)

-- and it ends in the normal form
pub walk-normal : (rows : List Row) (f : Flags) (st : State) → list_all row_is_sound rows ≡ true
    → list_all is_fine st.scraps ≡ true → walked rows f (least rows) 0 st ≡ normal rows f st
unfolding walked
walk-normal rows f st all fine = walk-gives State rows f (walked_of rows f (least rows)) (λ s. s) (λ i r s. s)
    (normal rows f) (λ n place s. refl) (normal-none rows f) (λ s place r fine next. normal-step rows f s place r all
    fine next) all (suc (walk_left 0 st)) 0 st fine (λ k less. absurd (omega arith)) (omega arith)
