-- Each production of a sound row lowers the weight, and keeps every scrap fine.
use Rattle.cw_table.proofs.Terms.{◌≡◌, ℕ, zero, suc, ◌+◌, ◌-◌, ◌<◌, ◌≤◌, ◌⊎◌, inl, inr, Bool, true, false, Option, Some}
use Rattle.cw_table.proofs.Terms.{None, List, [], ◌∷◌, map, length, get_or, take, drop, leb, refl, sym, ◌∙◌, ap, arith}
use Rattle.cw_table.proofs.Terms.{true≢false, leb-true, leb-false, length-append, length-drop, drop-drop, ◌&&◌}
use Rattle.cw_table.proofs.Terms.{length-take-le, get_or_past, list_all, nat_tests, both, Cat, Exp, FnDecl, Stmt, End}
use Rattle.cw_table.proofs.Terms.{CatSet, Flags, rank, may_be_bare, in_set, Maybe, bare_name, Scrap, no_scrap, join}
use Rattle.cw_table.proofs.Terms.{Piece, Row, RowResult, Is, SameAs, empty, tests_of, test, result_at, all_hold}
use Rattle.cw_table.proofs.Terms.{row_fits, scraps_in, numbers_from, result_from, IsLowering, IsSound, cats_of}
use Rattle.cw_table.proofs.Terms.{row_pieces, joined_of, alone, with_cat, new_scrap, worded_at, rewrite_from, State}
use Rattle.cw_table.proofs.Terms.{rewrite, rank_with, weight_of, weight, fine_with, is_fine}
use Rattle.cw_table.proofs.ScrapFacts.{all-append, all-take, all-drop, all-get, rank_with-none, rank_with-least}
use Rattle.cw_table.proofs.ScrapFacts.{rank-most, joined-bare, weight-append, weight-split, weight-least, weight-one}
use Rattle.cw_table.proofs.ScrapFacts.{cats-get, cats-length, cats-drop, at-cats, at-weight, at-fine, at-length}
use Rattle.cw_table.proofs.ScrapFacts.{right-weight, right-fine, right-length}
use Rattle.cw_table.specs.declared.types.Piece.TheVariants as piece

-- a row that fits admits what stands at each of its places
pub hold-at : (ts : List CatSet) (cs : List Cat) (q : ℕ) → all_hold ts cs ≡ true → q < length ts
    → in_set (get_or ts q empty) (get_or cs q End) ≡ true
hold-at [] cs q h k = absurd (omega arith)
hold-at (t ∷ ts) [] q h k = go (λ n. hold-at ts [] n) (in_set t End) refl q k h
  where
    go : ((n : ℕ) → all_hold ts [] ≡ true → n < length ts → in_set (get_or ts n empty) End ≡ true) → (b : Bool)
        → in_set t End ≡ b → (n : ℕ) → n < length (t ∷ ts) → (b && all_hold ts []) ≡ true
        → in_set (get_or (t ∷ ts) n empty) End ≡ true
    go rec true e zero k h = e
    go rec true e (suc n) k h = rec n h (omega arith)
    go rec false e n k h = cc
hold-at (t ∷ ts) (c ∷ cs) q h k = go (λ n. hold-at ts cs n) (in_set t c) refl q k h
  where
    go : ((n : ℕ) → all_hold ts cs ≡ true → n < length ts → in_set (get_or ts n empty) (get_or cs n End) ≡ true)
        → (b : Bool) → in_set t c ≡ b → (n : ℕ) → n < length (t ∷ ts) → (b && all_hold ts cs)
        ≡ true → in_set (get_or (t ∷ ts) n empty) (get_or (c ∷ cs) n End) ≡ true
    go rec true e zero k h = e
    go rec true e (suc n) k h = rec n h (omega arith)
    go rec false e n k h = cc

tests-length : (r : Row) → IsSound r → length (tests_of r) ≡ r.test_count
tests-length r s = length-take-le r.test_count r.tests s.counted_tests

-- what a row replaces is there
pub room : (r : Row) (cs : List Cat) → IsSound r → row_fits r cs ≡ true → r.offset + r.replaced ≤ length cs
room r cs s fits = go (leb (r.offset + r.replaced) (length cs)) refl
  where
    go : (b : Bool) → leb (r.offset + r.replaced) (length cs) ≡ b → r.offset + r.replaced ≤ length cs
    go true e = leb-true _ _ e
    go false e =
        let short : length cs < r.offset + r.replaced = leb-false _ _ e in
        let some : 1 ≤ r.replaced = s.some_replaced in
        let past : length cs ≤ r.offset + r.replaced - 1 = omega arith in
        let long : length (tests_of r) ≡ r.test_count = tests-length r s in
        let within : r.offset + r.replaced ≤ r.test_count = s.replaced_tested in
        let holds : in_set (test r (r.offset + r.replaced - 1)) (get_or cs (r.offset + r.replaced - 1) End) ≡ true =
        hold-at (tests_of r) cs (r.offset + r.replaced - 1) fits (omega arith) in
        let ends : get_or cs (r.offset + r.replaced - 1) End ≡ End =
        get_or_past cs (r.offset + r.replaced - 1) End past in
        let never : in_set (test r (r.offset + r.replaced - 1)) End ≡ false =
        s.replaced_not_end (r.offset + r.replaced - 1) (omega arith) (omega arith) in
        absurd (true≢false (sym holds ∙ ap (λ c. in_set (test r (r.offset + r.replaced - 1)) c) ends ∙ never))

-- the pieces hold what is replaced
pub pieces-whole : (f : Flags) (r : Row) (cs : List Cat) → IsSound r → scraps_in (row_pieces f r cs)
    ≡ numbers_from r.offset r.replaced
pieces-whole f r cs s = grind (arith, nat_tests)

pub alone-is : (k : ℕ) (ps : List Piece) (n : ℕ) → alone k ps ≡ Some n → (k ≡ 1) × (scraps_in ps ≡ n ∷ [])
alone-is (suc zero) (piece.Scrap k ∷ []) n h = (refl, cc)
alone-is _ _ n h = cc

-- the scrap that is kept is the one at the row's offset, and no other is replaced
pub alone-at : (f : Flags) (r : Row) (cs : List Cat) (n : ℕ) → IsSound r → alone r.replaced (row_pieces f r cs) ≡ Some n
    → (r.replaced ≡ 1) × (n ≡ r.offset)
alone-at f r cs n s e = grind (arith, nat_tests, alone-is, pieces-whole, both)

-- where one scrap is replaced its rank falls
one-lowers : (r : Row) (xs : List Scrap) → IsSound r → row_fits r (cats_of xs) ≡ true → r.replaced ≡ 1
    → IsLowering r (get_or xs r.offset no_scrap).cat
one-lowers r xs s fits e =
    let within : r.offset + r.replaced ≤ r.test_count = s.replaced_tested in
    let long : length (tests_of r) ≡ r.test_count = tests-length r s in
    let holds : in_set (test r r.offset) (get_or (cats_of xs) r.offset End) ≡ true =
    hold-at (tests_of r) (cats_of xs) r.offset fits (omega arith) in
    s.lowers_one e (get_or xs r.offset no_scrap).cat (sym (ap (λ c. in_set (test r r.offset) c) (cats-get xs r.offset))
    ∙ holds)

result-one : (res : RowResult) (cs : List Cat) (old : Cat) → rank (result_from res old) < rank old → result_at res cs
    ≡ result_from res old
result-one (Is c) cs old h = refl
result-one (SameAs k) cs old h = absurd (omega arith)

low-with : (c : Cat) (m : ℕ) → rank c < 1 → rank_with c (Some m) < 4
low-with Exp m h = absurd (omega arith)
low-with _ m h = omega arith

lower-with : (old c : Cat) (b : Option ℕ) → rank c < rank old → fine_with old b ≡ true → rank_with c b < rank_with old b
lower-with old c None h k = rw (rank_with-none c, rank_with-none old) h
lower-with Exp c (Some m) h k = low-with c m h
lower-with FnDecl c (Some m) h k = absurd (omega arith)
lower-with Stmt c (Some m) h k = absurd (omega arith)
lower-with _ c (Some m) h k = cc

fine-with : (old c : Cat) (b : Option ℕ) → rank c < rank old → (old ≡ Exp → may_be_bare c ≡ true) → fine_with old b
    ≡ true → fine_with c b ≡ true
fine-with old c None h stays k = refl
fine-with Exp c (Some m) h stays k = stays refl
fine-with FnDecl c (Some m) h stays k = absurd (omega arith)
fine-with Stmt c (Some m) h stays k = absurd (omega arith)
fine-with _ c (Some m) h stays k = cc

one-or-more : (k : ℕ) → 1 ≤ k → (k ≡ 1) ⊎ (2 ≤ k)
one-or-more zero h = absurd (omega arith)
one-or-more (suc zero) h = inl refl
one-or-more (suc (suc k)) h = inr (omega arith)

-- the new category, where one scrap is replaced
one-falls : (r : Row) (xs : List Scrap) → IsSound r → row_fits r (cats_of xs) ≡ true → r.replaced ≡ 1
    → rank (result_at r.result (cats_of xs)) < rank (get_or xs r.offset no_scrap).cat
one-falls r xs s fits e =
    let l = one-lowers r xs s fits e in
    let same : result_at r.result (cats_of xs) ≡ result_from r.result (get_or xs r.offset no_scrap).cat =
    result-one r.result (cats_of xs) (get_or xs r.offset no_scrap).cat l.rank_falls in
    rw same l.rank_falls

one-stays : (r : Row) (xs : List Scrap) → IsSound r → row_fits r (cats_of xs) ≡ true → r.replaced ≡ 1
    → (get_or xs r.offset no_scrap).cat ≡ Exp → may_be_bare (result_at r.result (cats_of xs)) ≡ true
one-stays r xs s fits e is =
    let l = one-lowers r xs s fits e in
    let same : result_at r.result (cats_of xs) ≡ result_from r.result (get_or xs r.offset no_scrap).cat =
    result-one r.result (cats_of xs) (get_or xs r.offset no_scrap).cat l.rank_falls in
    ap may_be_bare same ∙ l.bare_stays_allowed is

-- the new scrap weighs less than what it replaces
pub new-weight : (f : Flags) (r : Row) (xs : List Scrap) → IsSound r → row_fits r (cats_of xs) ≡ true
    → list_all is_fine xs ≡ true → weight_of (new_scrap f r xs) < weight (take r.replaced (drop r.offset xs))
new-weight f r xs s fits fine = go (alone r.replaced (row_pieces f r (cats_of xs))) refl
  where
    there : r.offset + r.replaced ≤ length xs
    there = rw (← cats-length xs) (room r (cats_of xs) s fits)

    joined : (js : _) → weight_of (join (result_at r.result (cats_of xs)) js)
        ≡ 4 + rank (result_at r.result (cats_of xs))
    joined js = ap (λ b. 4 + rank_with (result_at r.result (cats_of xs)) b) (joined-bare Maybe js)
        ∙ ap (λ n. 4 + n) (rank_with-none (result_at r.result (cats_of xs)))

    some : 1 ≤ r.replaced
    some = s.some_replaced

    go : (o : Option ℕ) → alone r.replaced (row_pieces f r (cats_of xs)) ≡ o → weight_of (elim o [
      | Some k ↦ with_cat (result_at r.result (cats_of xs)) (get_or xs k no_scrap)
      | None ↦ join (result_at r.result (cats_of xs)) (map (joined_of xs) (row_pieces f r (cats_of xs)))
    ])
        < weight (take r.replaced (drop r.offset xs))
    go None e = more (one-or-more r.replaced some)
      where
        more : (r.replaced ≡ 1) ⊎ (2 ≤ r.replaced) → weight_of (join (result_at r.result (cats_of xs))
            (map (joined_of xs) (row_pieces f r (cats_of xs)))) < weight (take r.replaced (drop r.offset xs))
        more (inl one) =
            let w : weight (take r.replaced (drop r.offset xs)) ≡ weight_of (get_or xs r.offset no_scrap) =
            ap (λ k. weight (take k (drop r.offset xs))) one ∙ weight-one xs r.offset (omega (arith, there)) in
            omega (
              arith,
              joined (map (joined_of xs) (row_pieces f r (cats_of xs))),
              one-falls r xs s fits one,
              rank_with-least (get_or xs r.offset no_scrap).cat (bare_name (get_or xs r.offset no_scrap).tree),
            )
        more (inr two) =
            let long : length (take r.replaced (drop r.offset xs)) ≡ r.replaced =
            length-take-le r.replaced (drop r.offset xs) (omega (arith, there, length-drop r.offset xs)) in
            omega (
              arith,
              joined (map (joined_of xs) (row_pieces f r (cats_of xs))),
              rank-most (result_at r.result (cats_of xs)),
              weight-least (take r.replaced (drop r.offset xs)),
            )
    go (Some n) e =
        let p = alone-at f r (cats_of xs) n s e in
        let w : weight (take r.replaced (drop r.offset xs)) ≡ weight_of (get_or xs r.offset no_scrap) =
        ap (λ k. weight (take k (drop r.offset xs))) p.0 ∙ weight-one xs r.offset (omega (arith, there)) in
        let fall : rank (result_at r.result (cats_of xs)) < rank (get_or xs r.offset no_scrap).cat =
        one-falls r xs s fits p.0 in
        let is : is_fine (get_or xs r.offset no_scrap) ≡ true =
        all-get is_fine xs r.offset no_scrap (omega (arith, there)) fine in
        rw (w, p.1) (omega (
          arith,
          lower-with (get_or xs r.offset no_scrap).cat (result_at r.result (cats_of xs))
              (bare_name (get_or xs r.offset no_scrap).tree) fall is,
        ))

pub new-fine : (f : Flags) (r : Row) (xs : List Scrap) → IsSound r → row_fits r (cats_of xs) ≡ true
    → list_all is_fine xs ≡ true → is_fine (new_scrap f r xs) ≡ true
new-fine f r xs s fits fine = go (alone r.replaced (row_pieces f r (cats_of xs))) refl
  where
    there : r.offset + r.replaced ≤ length xs
    there = rw (← cats-length xs) (room r (cats_of xs) s fits)

    go : (o : Option ℕ) → alone r.replaced (row_pieces f r (cats_of xs)) ≡ o → is_fine (elim o [
      | Some k ↦ with_cat (result_at r.result (cats_of xs)) (get_or xs k no_scrap)
      | None ↦ join (result_at r.result (cats_of xs)) (map (joined_of xs) (row_pieces f r (cats_of xs)))
    ]) ≡ true
    go None e = ap (λ b. fine_with (result_at r.result (cats_of xs)) b)
        (joined-bare Maybe (map (joined_of xs) (row_pieces f r (cats_of xs))))
    go (Some n) e =
        let p = alone-at f r (cats_of xs) n s e in
        let fall : rank (result_at r.result (cats_of xs)) < rank (get_or xs r.offset no_scrap).cat =
        one-falls r xs s fits p.0 in
        let is : is_fine (get_or xs r.offset no_scrap) ≡ true =
        all-get is_fine xs r.offset no_scrap (omega (arith, there)) fine in
        rw p.1 (fine-with (get_or xs r.offset no_scrap).cat (result_at r.result (cats_of xs))
        (bare_name (get_or xs r.offset no_scrap).tree) fall (one-stays r xs s fits p.0) is)

-- Rewriting as a whole. The identifier is reserved first, which changes no category and raises no weight.
at-fits : (r : Row) (ps : List Scrap) → row_fits r (cats_of ps) ≡ true
    → row_fits r (cats_of (worded_at r.action ps)) ≡ true
at-fits r ps fits = ap (λ cs. row_fits r cs) (at-cats r.action ps) ∙ fits

parts-weight : (o k : ℕ) (qs : List Scrap) → (weight (take o qs) + weight (take k (drop o qs)))
    + weight (drop (o + k) qs) ≡ weight qs
parts-weight o k qs = omega (arith, weight-split o qs, weight-split k (drop o qs), ap weight (drop-drop k o qs))

pub from-weight : (f : Flags) (r : Row) (ps : List Scrap) → IsSound r → row_fits r (cats_of ps) ≡ true
    → list_all is_fine ps ≡ true → weight (rewrite_from f r ps) < weight ps
from-weight f r ps s fits fine =
    grind (arith, nat_tests, new-weight, at-fits, at-fine, weight-append, right-weight, parts-weight, at-weight)

pub from-fine : (f : Flags) (r : Row) (ps : List Scrap) → IsSound r → row_fits r (cats_of ps) ≡ true
    → list_all is_fine ps ≡ true → list_all is_fine (rewrite_from f r ps) ≡ true
from-fine f r ps s fits fine =
    grind (arith, nat_tests, at-fine, all-append, all-take, both, new-fine, at-fits, right-fine, all-drop)

pub from-length : (f : Flags) (r : Row) (ps : List Scrap) → IsSound r → row_fits r (cats_of ps) ≡ true
    → length (rewrite_from f r ps) + r.replaced ≡ length ps + 1
from-length f r ps s fits =
    grind (arith, nat_tests, room, cats-length, at-length, length-take-le, length-append, right-length, length-drop)

-- What one production gives.
pub record Falls (f : Flags) (r : Row) (i : ℕ) (st : State) : Type 0 where
  pub lighter : weight (rewrite f r i st).scraps < weight st.scraps
  pub fine : list_all is_fine (rewrite f r i st).scraps ≡ true
  pub shorter : length (rewrite f r i st).scraps + r.replaced ≡ length st.scraps + 1
  pub some : 1 ≤ r.replaced

pub falls : (f : Flags) (r : Row) (i : ℕ) (st : State) → IsSound r → row_fits r (drop i (cats_of st.scraps)) ≡ true
    → list_all is_fine st.scraps ≡ true → i ≤ length st.scraps → Falls f r i st
falls f r i st s fits fine inside = grind (
  arith,
  nat_tests,
  cats-drop,
  all-drop,
  length-take-le,
  from-weight,
  weight-append,
  weight-split,
  all-append,
  all-take,
  from-fine,
  from-length,
  length-append,
  length-drop,
)
