-- The states on the way to the normal form: each is lighter than those before it.
use Rattle.cw_table.proofs.Terms.{◌≡◌, ℕ, zero, suc, ◌+◌, ◌-◌, ◌<◌, ◌≤◌, true, List, refl, sym, ◌∙◌, ap, arith}
use Rattle.cw_table.proofs.Terms.{ltb-true, ltb-false, list_all, nat_tests, Flags, Row, row_is_sound, State, rewrite}
use Rattle.cw_table.proofs.Terms.{Place, Nowhere, At, next_place, weight, is_fine, steps, normal, count}
use Rattle.cw_table.specs.Reaching.{IsAfter}
use Rattle.cw_table.proofs.Normals.{takes, steps-none, steps-turn, count-none, count-step, normal-step}

pub steps-add : (rows : List Row) (f : Flags) (k m : ℕ) (st : State) → steps rows f (k + m) st
    ≡ steps rows f m (steps rows f k st)
steps-add rows f zero m st = ap (λ n. steps rows f n st) (omega arith)
steps-add rows f (suc k) m st = ap (λ n. steps rows f n st) (let e : suc k + m ≡ suc (k + m) = omega arith in e)
    ∙ go (next_place rows st) refl (λ s. steps-add rows f k m s)
  where
    go : (p : Place) → next_place rows st ≡ p → ((s : State) → steps rows f (k + m) s
        ≡ steps rows f m (steps rows f k s)) → steps rows f (suc (k + m)) st ≡ steps rows f m (steps rows f (suc k) st)
    go Nowhere e rec = steps-none rows f (suc (k + m)) st e ∙ sym (steps-none rows f m st e)
        ∙ ap (steps rows f m) (sym (steps-none rows f (suc k) st e))
    go (At i r) e rec = steps-turn rows f (k + m) i r st e ∙ rec (rewrite f r i st)
        ∙ ap (steps rows f m) (sym (steps-turn rows f k i r st e))

-- one production more
pub steps-next : (rows : List Row) (f : Flags) (k i : ℕ) (r : Row) (st : State) → next_place rows (steps rows f k st)
    ≡ At i r → steps rows f (suc k) st ≡ rewrite f r i (steps rows f k st)
steps-next rows f k i r st e = ap (λ n. steps rows f n st) (let e : suc k ≡ k + 1 = omega arith in e)
    ∙ steps-add rows f k 1 st ∙ steps-turn rows f 0 i r (steps rows f k st) e

-- what so many productions leave
pub record Leaves (rows : List Row) (f : Flags) (k : ℕ) (st : State) : Type 0 where
  pub fine : list_all is_fine (steps rows f k st).scraps ≡ true
  pub fewer : count rows f (steps rows f k st) + k ≡ count rows f st
  pub lighter : weight (steps rows f k st).scraps + k ≤ weight st.scraps
  pub same : normal rows f (steps rows f k st) ≡ normal rows f st

pub leaves : (rows : List Row) (f : Flags) (k : ℕ) (st : State) → list_all row_is_sound rows ≡ true
    → list_all is_fine st.scraps ≡ true → k ≤ count rows f st → Leaves rows f k st
leaves rows f zero st all fine most = record { fine = fine; fewer = omega arith; lighter = omega arith; same = refl }
leaves rows f (suc k) st all fine most = go (next_place rows st) refl (λ s. leaves rows f k s all)
  where
    go : (p : Place) → next_place rows st ≡ p → ((s : State) → list_all is_fine s.scraps ≡ true → k ≤ count rows f s
        → Leaves rows f k s) → Leaves rows f (suc k) st
    go Nowhere e rec = absurd (omega (arith, count-none rows f st e))
    go (At i r) e rec =
        let t = (takes rows f st i r all fine e).falls in
        let c : count rows f st ≡ suc (count rows f (rewrite f r i st)) = count-step rows f st i r all fine e in
        let l = rec (rewrite f r i st) t.fine (omega arith) in
        let s : steps rows f (suc k) st ≡ steps rows f k (rewrite f r i st) = steps-turn rows f k i r st e in
        record {
          fine = ap (λ (x : State). list_all is_fine x.scraps) s ∙ l.fine;
          fewer = omega (arith, ap (count rows f) s, l.fewer);
          lighter = omega (arith, ap (λ (x : State). weight x.scraps) s, l.lighter, t.lighter);
          same = ap (normal rows f) s ∙ l.same ∙ sym (normal-step rows f st i r all fine e);
        }

-- more productions leave less weight
lighter-later : (rows : List Row) (f : Flags) (k m : ℕ) (st : State) → list_all row_is_sound rows ≡ true
    → list_all is_fine st.scraps ≡ true → k < m → m ≤ count rows f st
    → weight (steps rows f m st).scraps < weight (steps rows f k st).scraps
lighter-later rows f k m st all fine less most =
    let l = leaves rows f k st all fine (omega arith) in
    let n = leaves rows f (m - k) (steps rows f k st) all l.fine (omega (arith, l.fewer)) in
    omega (
      arith,
      n.lighter,
      ap (λ (x : State). weight x.scraps) (ap (λ j. steps rows f j st) (let e : m
          ≡ k + (m - k) = omega arith in e) ∙ steps-add rows f k (m - k) st),
    )

pub same-number : (rows : List Row) (f : Flags) (k m : ℕ) (st : State) → list_all row_is_sound rows ≡ true
    → list_all is_fine st.scraps ≡ true → k ≤ count rows f st → m ≤ count rows f st → weight (steps rows f m st).scraps
    ≡ weight (steps rows f k st).scraps → m ≡ k
same-number rows f k m st all fine a b e = grind (arith, nat_tests, lighter-later, ltb-true, ltb-false)

-- The state after some number of productions, which its weight gives.
pub is-after : (rows : List Row) (f : Flags) (k : ℕ) (st : State) → list_all row_is_sound rows ≡ true
    → list_all is_fine st.scraps ≡ true → k ≤ count rows f st → IsAfter rows f st (steps rows f k st)
is-after rows f k st all fine most = grind (arith, nat_tests, same-number)
