-- Productions give names no category but that of types.
use Rattle.cw_log_laws.proofs.Terms.{◌≡◌, ◌≢◌, ℕ, zero, suc, List, [], ◌∷◌, set, sym, subst, refl, arith, Cat, End}
use Rattle.cw_log_laws.proofs.Terms.{Flags, Search, Row, Place, Nowhere, At, next_place, steps, weight, State, rewrite}
use Rattle.cw_log_laws.proofs.Terms.{with_type, steps-none, steps-turn}
use Rattle.cw_table.specs.Normal.{normal}
use Rattle.cw_log_laws.proofs.LaterNames.{AreReal}

set-real : (cats : List Cat) (n : ℕ) (c : Cat) → c ≢ End → AreReal cats → AreReal (set cats n c)
set-real [] n c h all = tt
set-real (d ∷ cats) zero c h all = (h, all.1)
set-real (d ∷ cats) (suc n) c h all = (all.0, set-real cats n c h all.1)

type-real : (s : Search) (cats : List Cat) → AreReal cats → AreReal (with_type s cats)
type-real s cats all = grind (arith, set-real)

steps-real : (rows : List Row) (flags : Flags) (n : ℕ) (st : State) → AreReal st.cats
    → AreReal (steps rows flags n st).cats
steps-real rows flags zero st all = all
steps-real rows flags (suc n) st all = go (next_place rows st) refl (λ s. steps-real rows flags n s)
  where
    go : (p : Place) → next_place rows st ≡ p → ((s : State) → AreReal s.cats → AreReal (steps rows flags n s).cats)
        → AreReal (steps rows flags (suc n) st).cats
    go Nowhere e rec = subst (λ (s : State). AreReal s.cats) (sym (steps-none rows flags (suc n) st e)) all
    go (At i r) e rec = subst (λ (s : State). AreReal s.cats) (sym (steps-turn rows flags n i r st e))
        (rec (rewrite flags r i st) (type-real _ st.cats all))

pub normal-real : (rows : List Row) (flags : Flags) (st : State) → AreReal st.cats → AreReal (normal rows flags st).cats
unfolding normal
normal-real rows flags st all = steps-real rows flags (weight st.scraps) st all
