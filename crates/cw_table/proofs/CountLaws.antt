-- How many turns the walk takes, and how many steps it counts.
use Rattle.cw_table.proofs.Terms.{◌≡◌, ℕ, zero, suc, ◌+◌, ◌-◌, ◌*◌, ◌<◌, ◌≤◌, Bool, true, false, ltb, Option, Some}
use Rattle.cw_table.proofs.Terms.{None, List, [], ◌∷◌, length, drop, refl, sym, ◌∙◌, ap, arith, ltb-true, ltb-false}
use Rattle.cw_table.proofs.Terms.{list_all, All, nat_tests, Flags, Row, first_of, least, row_is_sound, cats_of, State}
use Rattle.cw_table.proofs.Terms.{rewrite, Place, Nowhere, At, next_place, weight, is_fine, walk_left, Position}
use Rattle.cw_table.proofs.Terms.{positions_of, turns, NoneFitsBelow}
use Rattle.std.proofs.lemmas.List.Elements.{All-nil, All-cons}
use Rattle.cw_table.specs.NormalWalk.{positions}
use Rattle.cw_table.specs.WalkCounts.{where_reserving, right_of_new, looks_of, looks, reservings_of, reservings}
use Rattle.cw_table.specs.WalkCounts.{ticks_from, ticks}
use Rattle.cw_table.proofs.{Normals.takes, Normals.more-same, ScrapFacts.cats-length, ScrapFacts.weight-most}
use Rattle.cw_table.proofs.WalkLaws.{NoneBelow, Turns, turning, next-nowhere, lt-or-is, step_of, step-is}

-- Above a place where no row fits, none fits below the next one.
pub none-below-next : (rows : List Row) (st : State) (place : ℕ) → NoneBelow rows st place
    → first_of rows (drop place (cats_of st.scraps)) ≡ None → NoneBelow rows st (suc place)
none-below-next rows st place below found = grind (arith, nat_tests, lt-or-is)

-- The turns.
abbrev here : ℕ → State → Position
here place st = record { place = place; state = st }

positions-step : (rows : List Row) (f : Flags) (n place : ℕ) (st : State) (b : Bool) (o : Option Row)
    → ltb place (length st.scraps) ≡ b → first_of rows (drop place (cats_of st.scraps)) ≡ o → positions_of rows f
    (least rows) (suc n) place st ≡ step_of b o [] (here place st ∷ positions_of rows f (least rows) n (suc place) st)
    (λ r. here place st ∷ positions_of rows f (least rows) n (place - least rows r) (rewrite f r place st))
positions-step rows f n place st b o e found = grind (arith, nat_tests, step-is)

positions-same : (rows : List Row) (f : Flags) (n m place : ℕ) (st : State) → list_all row_is_sound rows ≡ true
    → list_all is_fine st.scraps ≡ true → NoneBelow rows st place → walk_left place st < n → walk_left place st < m
    → positions_of rows f (least rows) n place st ≡ positions_of rows f (least rows) m place st
positions-same rows f zero m place st all fine below a b = absurd (omega arith)
positions-same rows f (suc n) zero place st all fine below a b = absurd (omega arith)
positions-same rows f (suc n) (suc m) place st all fine below a b = go (ltb place (length st.scraps))
    (first_of rows (drop place (cats_of st.scraps))) refl refl (λ q s. positions-same rows f n m q s all)
  where
    go : (inside : Bool) (o : Option Row) → ltb place (length st.scraps) ≡ inside → first_of rows (drop place (cats_of
        st.scraps)) ≡ o → ((q : ℕ) (s : State) → list_all is_fine s.scraps ≡ true → NoneBelow rows s q → walk_left q s <
        n → walk_left q s < m → positions_of rows f (least rows) n q s ≡ positions_of rows f (least rows) m q s)
        → positions_of rows f (least rows) (suc n) place st ≡ positions_of rows f (least rows) (suc m) place st
    go false o e found rec = positions-step rows f n place st false o e found
        ∙ sym (positions-step rows f m place st false o e found)
    go true None e found rec =
        let inside : place < length st.scraps = ltb-true _ _ e in
        positions-step rows f n place st true None e found
        ∙ ap (λ ps. here place st ∷ ps) (rec (suc place) st fine (none-below-next rows st place below found)
        (omega arith) (omega arith))
        ∙ sym (positions-step rows f m place st true None e found)
    go true (Some r) e found rec =
        let inside : place < length st.scraps = ltb-true _ _ e in
        let t = turning rows f st place r all fine below inside found in
        positions-step rows f n place st true (Some r) e found
        ∙ ap (λ ps. here place st ∷ ps) (rec (place - least rows r) (rewrite f r place st) t.takes.falls.fine t.below
        (omega (arith, t.less)) (omega (arith, t.less)))
        ∙ sym (positions-step rows f m place st true (Some r) e found)

pub turns-end : (rows : List Row) (f : Flags) (place : ℕ) (st : State) → length st.scraps ≤ place
    → turns rows f (least rows) place st ≡ 0
unfolding positions
turns-end rows f place st past = grind (arith, nat_tests, positions-step, ltb-true)

inside-is : (place n : ℕ) → place < n → ltb place n ≡ true
inside-is place n less = grind (arith, nat_tests, ltb-false)

pub turns-past : (rows : List Row) (f : Flags) (place : ℕ) (st : State) → list_all row_is_sound rows ≡ true
    → list_all is_fine st.scraps ≡ true → NoneBelow rows st place → place < length st.scraps → first_of rows (drop place
    (cats_of st.scraps)) ≡ None → turns rows f (least rows) place st ≡ 1 + turns rows f (least rows) (suc place) st
unfolding positions
turns-past rows f place st all fine below inside found =
    grind (arith, nat_tests, positions-step, inside-is, positions-same, none-below-next)

pub turns-taken : (rows : List Row) (f : Flags) (place : ℕ) (st : State) (r : Row) → list_all row_is_sound rows ≡ true
    → place < length st.scraps → Turns rows f st place r → turns rows f (least rows) place st
    ≡ 1 + turns rows f (least rows) (place - least rows r) (rewrite f r place st)
unfolding positions
turns-taken rows f place st r all inside t = grind (arith, nat_tests, positions-step, inside-is, positions-same)

-- each turn lowers what is left of the walk
turns-short : (rows : List Row) (f : Flags) (n place : ℕ) (st : State) → list_all row_is_sound rows ≡ true
    → list_all is_fine st.scraps ≡ true → NoneBelow rows st place → length (positions_of rows f (least rows) n place st)
    ≤ walk_left place st
turns-short rows f zero place st all fine below = omega arith
turns-short rows f (suc n) place st all fine below = go (ltb place (length st.scraps))
    (first_of rows (drop place (cats_of st.scraps))) refl refl (λ q s. turns-short rows f n q s all)
  where
    go : (inside : Bool) (o : Option Row) → ltb place (length st.scraps) ≡ inside
        → first_of rows (drop place (cats_of st.scraps)) ≡ o → ((q : ℕ) (s : State) → list_all is_fine s.scraps ≡ true
        → NoneBelow rows s q → length (positions_of rows f (least rows) n q s) ≤ walk_left q s)
        → length (positions_of rows f (least rows) (suc n) place st) ≤ walk_left place st
    go false o e found rec = omega (arith, ap length (positions-step rows f n place st false o e found))
    go true None e found rec =
        let inside : place < length st.scraps = ltb-true _ _ e in
        omega (
          arith,
          ap length (positions-step rows f n place st true None e found),
          rec (suc place) st fine (none-below-next rows st place below found),
        )
    go true (Some r) e found rec =
        let inside : place < length st.scraps = ltb-true _ _ e in
        let t = turning rows f st place r all fine below inside found in
        omega (
          arith,
          ap length (positions-step rows f n place st true (Some r) e found),
          rec (place - least rows r) (rewrite f r place st) t.takes.falls.fine t.below,
          t.less,
        )

pub turns-most : (rows : List Row) (f : Flags) (st : State) → list_all row_is_sound rows ≡ true
    → list_all is_fine st.scraps ≡ true → turns rows f (least rows) 0 st ≤ 33 * length st.scraps
unfolding positions
turns-most rows f st all fine = omega (
  arith,
  turns-short rows f (suc (walk_left 0 st)) 0 st all fine (λ k less. absurd (omega arith)),
  weight-most st.scraps,
)

-- at each turn no row fits below its place
leftmost-of : (rows : List Row) (f : Flags) (n place : ℕ) (st : State) → list_all row_is_sound rows ≡ true
    → list_all is_fine st.scraps ≡ true → NoneBelow rows st place
    → All (NoneFitsBelow rows) (positions_of rows f (least rows) n place st)
leftmost-of rows f zero place st all fine below = All-nil (NoneFitsBelow rows)
leftmost-of rows f (suc n) place st all fine below = go (ltb place (length st.scraps))
    (first_of rows (drop place (cats_of st.scraps))) refl refl (λ q s. leftmost-of rows f n q s all)
  where
    go : (inside : Bool) (o : Option Row) → ltb place (length st.scraps) ≡ inside
        → first_of rows (drop place (cats_of st.scraps)) ≡ o → ((q : ℕ) (s : State) → list_all is_fine s.scraps ≡ true
        → NoneBelow rows s q → All (NoneFitsBelow rows) (positions_of rows f (least rows) n q s))
        → All (NoneFitsBelow rows) (positions_of rows f (least rows) (suc n) place st)
    go false o e found rec = rw (positions-step rows f n place st false o e found) (All-nil (NoneFitsBelow rows))
    go true None e found rec = rw (positions-step rows f n place st true None e found) (All-cons (NoneFitsBelow rows)
        (here place st) _ below (rec (suc place) st fine (none-below-next rows st place below found)))
    go true (Some r) e found rec =
        let inside : place < length st.scraps = ltb-true _ _ e in
        let t = turning rows f st place r all fine below inside found in
        rw (positions-step rows f n place st true (Some r) e found) (All-cons (NoneFitsBelow rows) (here place st) _
        below (rec (place - least rows r) (rewrite f r place st) t.takes.falls.fine t.below))

pub walk-leftmost : (rows : List Row) (f : Flags) (st : State) → list_all row_is_sound rows ≡ true
    → list_all is_fine st.scraps ≡ true → All (NoneFitsBelow rows) (positions rows f (least rows) 0 st)
unfolding positions
walk-leftmost rows f st all fine = leftmost-of rows f (suc (walk_left 0 st)) 0 st all fine
    (λ k less. absurd (omega arith))

-- What is summed over the productions.
none-looks : (rows : List Row) (f : Flags) (n : ℕ) (st : State) → next_place rows st ≡ Nowhere → looks_of rows f n st
    ≡ 0
none-looks rows f x3 st e = grind (arith, nat_tests, nat_tests)

one-looks : (rows : List Row) (f : Flags) (n i : ℕ) (r : Row) (st : State) → next_place rows st ≡ At i r
    → looks_of rows f (suc n) st ≡ right_of_new f r i st + looks_of rows f n (rewrite f r i st)
one-looks rows f n i r st e = grind (arith, nat_tests)

one-reservings : (rows : List Row) (f : Flags) (n i : ℕ) (r : Row) (st : State) → next_place rows st ≡ At i r
    → reservings_of rows f (suc n) st ≡ where_reserving r.action.reserve 1 + reservings_of rows f n (rewrite f r i st)
one-reservings rows f n i r st e = grind (arith, nat_tests)

looks-same : (rows : List Row) (f : Flags) (n m : ℕ) (st : State) → list_all row_is_sound rows ≡ true → list_all is_fine
    st.scraps ≡ true → weight st.scraps ≤ n → weight st.scraps ≤ m → looks_of rows f n st ≡ looks_of rows f m st
looks-same rows f = more-same ℕ rows f (looks_of rows f) (λ s i r x. right_of_new f r i s + x) (λ s. 0)
    (none-looks rows f) (one-looks rows f)

pub looks-none : (rows : List Row) (f : Flags) (st : State) → next_place rows st ≡ Nowhere → looks rows f st ≡ 0
unfolding looks
looks-none rows f st e = none-looks rows f (weight st.scraps) st e

pub looks-step : (rows : List Row) (f : Flags) (st : State) (i : ℕ) (r : Row) → list_all row_is_sound rows ≡ true
    → list_all is_fine st.scraps ≡ true → next_place rows st ≡ At i r → looks rows f st
    ≡ right_of_new f r i st + looks rows f (rewrite f r i st)
unfolding looks
looks-step rows f st i r all fine e =
    let t = (takes rows f st i r all fine e).falls in
    looks-same rows f (weight st.scraps) (suc (weight st.scraps)) st all fine (omega arith) (omega arith) ∙ one-looks
    rows f (weight st.scraps) i r st e ∙ ap (λ x. right_of_new f r i st + x) (looks-same rows f (weight st.scraps)
    (weight (rewrite f r i st).scraps) (rewrite f r i st) all t.fine (omega (arith, t.lighter)) (omega arith))

sum-most : (o : Option ℕ) (right more v most : ℕ) → right ≤ most → more ≤ most * v
    → where_reserving o right + more ≤ most * (where_reserving o 1 + v)
sum-most x1 right more v most a b = grind (arith, nat_tests)

looks-most-of : (rows : List Row) (f : Flags) (n most : ℕ) (st : State) → list_all row_is_sound rows ≡ true → list_all
    is_fine st.scraps ≡ true → length st.scraps ≤ most → looks_of rows f n st ≤ most * reservings_of rows f n st
looks-most-of rows f zero most st all fine short = omega arith
looks-most-of rows f (suc n) most st all fine short = go (λ s. looks-most-of rows f n most s all) (next_place rows st)
    refl
  where
    go : ((s : State) → list_all is_fine s.scraps ≡ true → length s.scraps ≤ most
        → looks_of rows f n s ≤ most * reservings_of rows f n s) → (p : Place) → next_place rows st ≡ p
        → looks_of rows f (suc n) st ≤ most * reservings_of rows f (suc n) st
    go rec Nowhere e = omega (arith, none-looks rows f (suc n) st e)
    go rec (At i r) e =
        let t = (takes rows f st i r all fine e).falls in
        let less : length (rewrite f r i st).scraps ≤ most = omega (arith, t.shorter) in
        let sum : right_of_new f r i st + looks_of rows f n (rewrite f r i st) ≤ most
        * (where_reserving r.action.reserve 1 + reservings_of rows f n (rewrite f r i st)) =
        sum-most r.action.reserve (length (rewrite f r i st).scraps - (i + r.offset + 1)) _ _ most (omega arith)
        (rec (rewrite f r i st) t.fine less) in
        rw (one-looks rows f n i r st e, one-reservings rows f n i r st e) sum

pub looks-most : (rows : List Row) (f : Flags) (st : State) → list_all row_is_sound rows ≡ true
    → list_all is_fine st.scraps ≡ true → looks rows f st ≤ length st.scraps * reservings rows f st
unfolding looks reservings
looks-most rows f st all fine = looks-most-of rows f (weight st.scraps) (length st.scraps) st all fine (omega arith)

-- The steps: at the end there are none; a turn that goes on counts four; and a turn that rewrites counts four, and
-- the scraps to the right of the new one where the row reserves.
pub ticks-end : (rows : List Row) (f : Flags) (place : ℕ) (st : State) → NoneBelow rows st place
    → length st.scraps ≤ place → ticks_from rows f place st ≡ 0
ticks-end rows f place st below past = grind (arith, nat_tests, cats-length, turns-end, looks-none, next-nowhere)

pub ticks-past : (rows : List Row) (f : Flags) (place : ℕ) (st : State) → list_all row_is_sound rows ≡ true
    → list_all is_fine st.scraps ≡ true → NoneBelow rows st place → place < length st.scraps → first_of rows
    (drop place (cats_of st.scraps)) ≡ None → ticks_from rows f place st ≡ 4 + ticks_from rows f (suc place) st
ticks-past rows f place st all fine below inside found = grind (arith, nat_tests, turns-past)

pub ticks-taken : (rows : List Row) (f : Flags) (place : ℕ) (st : State) (r : Row) → list_all row_is_sound rows ≡ true
    → list_all is_fine st.scraps ≡ true → place < length st.scraps → Turns rows f st place r → ticks_from rows f place
    st ≡ 4 + (right_of_new f r place st + ticks_from rows f (place - least rows r) (rewrite f r place st))
ticks-taken rows f place st r all fine inside t = grind (arith, nat_tests, turns-taken, looks-step)

-- At most 132 steps for each scrap, and as many more as there are scraps for each production by a row that reserves.
pub ticks-most : (rows : List Row) (f : Flags) (st : State) → list_all row_is_sound rows ≡ true → list_all is_fine
    st.scraps ≡ true → ticks rows f st ≤ 132 * length st.scraps + length st.scraps * reservings rows f st
ticks-most rows f st all fine = omega (arith, turns-most rows f st all fine, looks-most rows f st all fine)
