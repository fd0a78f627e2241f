-- The productions of a log are those of the table, at places below the number of scraps.
use Rattle.cw_log_laws.proofs.Terms.{◌≡◌, ℕ, zero, suc, ◌<◌, ◌≤◌, Bool, true, false, ◌&&◌, nat_le, Some, List, [], ◌∷◌}
use Rattle.cw_log_laws.proofs.Terms.{length, drop, refl, sym, ap, ◌∙◌, subst, arith, if◌then◌else◌, All, list_all}
use Rattle.cw_log_laws.proofs.Terms.{leb-true, All-cons, All-nil, both-left, both-right, Cat, Flags, Row, Place}
use Rattle.cw_log_laws.proofs.Terms.{Nowhere, At, next_place, is_fine, log_of, weight, State, cats_of, rewrite}
use Rattle.cw_log_laws.proofs.Terms.{log-none-of, log-turn-of, takes, greatest, IsFineItem}
use Rattle.cw_table.specs.{declared.productions.TheConstants.ROW_COUNT, Fitting.row_fits, Fitting.first_of, Normal.log}
use Rattle.cw_table.specs.{Productions.productions}
use Rattle.cw_table.proofs.Examples.{productions-sound}

-- ## Numbers of rows

abbrev has_number : Row → Bool
has_number row = nat_le 1 row.number.number && nat_le row.number.number ROW_COUNT

all-numbered : list_all has_number productions ≡ true
unfolding productions
all-numbered = refl

first-numbered : (rows : List Row) (cats : List Cat) (row : Row) → list_all has_number rows ≡ true
    → first_of rows cats ≡ Some row → has_number row ≡ true
first-numbered [] cats row all e = absurd cc
first-numbered (r ∷ rows) cats row all e = go (row_fits r cats) refl e
    (λ f. first-numbered rows cats row (both-right (has_number r) _ all) f)
  where
    go : (b : Bool) → row_fits r cats ≡ b → (if b then Some r else first_of rows cats)
        ≡ Some row → (first_of rows cats ≡ Some row → has_number row ≡ true) → has_number row ≡ true
    go true f e rest =
        let same : r ≡ row = cc in
        ap has_number (sym same) ∙ both-left (has_number r) _ all
    go false f e rest = rest e

-- ## Places

module _ (flags : Flags) (most : ℕ) (few : most ≤ greatest) where
  item-fine : (st : State) (i : ℕ) (r : Row) → first_of productions (drop i (cats_of st.scraps)) ≡ Some r
      → i < length st.scraps → length st.scraps ≤ most → IsFineItem (record { number = r.number.number; place = i })
  item-fine st i r found inside short =
      let numbered = first-numbered productions (drop i (cats_of st.scraps)) r all-numbered found in
      record {
        from_one = leb-true 1 r.number.number (both-left (nat_le 1 r.number.number) _ numbered);
        to_last = leb-true r.number.number ROW_COUNT (both-right (nat_le 1 r.number.number) _ numbered);
        near = omega (arith, inside, short, few);
      }

  log-of-fine : (n : ℕ) (st : State) → list_all is_fine st.scraps ≡ true → length st.scraps ≤ most
      → All IsFineItem (log_of productions flags n st)
  log-of-fine zero st fine short = All-nil IsFineItem
  log-of-fine (suc n) st fine short = go (next_place productions st) refl (λ s. log-of-fine n s)
    where
      go : (p : Place) → next_place productions st ≡ p → ((s : State) → list_all is_fine s.scraps ≡ true
          → length s.scraps ≤ most → All IsFineItem (log_of productions flags n s))
          → All IsFineItem (log_of productions flags (suc n) st)
      go Nowhere e rec = subst (All IsFineItem) (sym (log-none-of productions flags (suc n) st e)) (All-nil IsFineItem)
      go (At i r) e rec =
          let t = takes productions flags st i r productions-sound fine e in
          subst (All IsFineItem) (sym (log-turn-of productions flags n i r st e))
          (All-cons IsFineItem (record { number = r.number.number; place = i })
          (log_of productions flags n (rewrite flags r i st)) (item-fine st i r t.found t.inside short)
          (rec (rewrite flags r i st) t.falls.fine (omega (arith, t.falls.shorter, t.falls.some, short))))

  pub log-fine : (st : State) → list_all is_fine st.scraps ≡ true → length st.scraps ≤ most
      → All IsFineItem (log productions flags st)
  unfolding log
  log-fine st fine short = log-of-fine (weight st.scraps) st fine short
