-- The scrap that a production makes is braced.
use Rattle.cw_brace_laws.proofs.Terms.{arith, ◌≡◌, ℕ, ◌+◌, ◌<◌, Bool, true, false, not, ◌&&◌, ◌||◌, Option, Some, None}
use Rattle.cw_brace_laws.proofs.Terms.{List, [], get_or, map, refl, sym, ap, ◌∙◌, subst, zero-add, nat_tests, All}
use Rattle.cw_brace_laws.proofs.Terms.{cases_lt, eqb-true, ltb-true, All-head, AllPass-from_list_all, both-left}
use Rattle.cw_brace_laws.proofs.Terms.{both-right, not-both, not-true, other-one, unless, in_set, Cat, Flags, Maybe}
use Rattle.cw_brace_laws.proofs.Terms.{cats-get, admits_only, are_quiet, between, braces_pair, is_calm, is_quiet}
use Rattle.cw_brace_laws.proofs.Terms.{makes_calm, may_be_calm, may_stand, pieces_are_braced, insertion_of, cats_of}
use Rattle.cw_brace_laws.proofs.Terms.{joined_of, alone, with_cat, row_pieces, new_scrap, takes_other, pieces_for}
use Rattle.cw_brace_laws.proofs.Terms.{result_at, test, Piece, MathScrap, Row, RowResult, Is, SameAs, Scrap, no_scrap}
use Rattle.cw_brace_laws.proofs.Terms.{join, StandsAt, HoldsNoText, IsBracedScrap, IsCleanOperator, PutsCleanOperator}
use Rattle.std.proofs.lemmas.List.{get_or_past}
use Rattle.cw_base.proofs.CategoryLaws.{every-cat}
use Rattle.cw_table.specs.{Braces.row_is_braced, declared.types.Piece.TheVariants.Scrap as ScrapOf}
use Rattle.cw_brace_laws.proofs.{Depths.ends-maybe, Joins.Lead, Joins.led, Joins.led-left}
use Rattle.cw_brace_laws.proofs.RowPieces.{Stands, alone-pieces, math-stands, pieces-lead}

-- ## Rows

-- what the law of rows says of pieces
pub record IsBracedRow (row : Row) (ps : List Piece) : Type 0 where
  pub pair : braces_pair 0 ps ≡ true
  pub held : are_quiet (may_stand row.result) row (between 0 ps) ≡ true
  pub calm : (not (may_be_calm row row.result) || are_quiet (makes_calm row.result) row ps) ≡ true

parts : (row : Row) (ps : List Piece) → pieces_are_braced row ps ≡ true → IsBracedRow row ps
parts row ps ok = record {
  pair = both-left (braces_pair 0 ps) (are_quiet (may_stand row.result) row (between 0 ps))
      (both-left (braces_pair 0 ps && are_quiet (may_stand row.result) row (between 0 ps))
      (not (may_be_calm row row.result) || are_quiet (makes_calm row.result) row ps) ok);
  held = both-right (braces_pair 0 ps) (are_quiet (may_stand row.result) row (between 0 ps))
      (both-left (braces_pair 0 ps && are_quiet (may_stand row.result) row (between 0 ps))
      (not (may_be_calm row row.result) || are_quiet (makes_calm row.result) row ps) ok);
  calm = both-right (braces_pair 0 ps && are_quiet (may_stand row.result) row (between 0 ps))
      (not (may_be_calm row row.result) || are_quiet (makes_calm row.result) row ps) ok;
}

pub row-braced : (row : Row) → row_is_braced row ≡ true → (other : Bool) → IsBracedRow row (pieces_for other row)
unfolding row_is_braced
row-braced row h other = grind (arith, nat_tests, parts, both-right, both-left)

-- of the scraps that a piece puts in
abbrev pub AtScrap : (ℕ → Type 0) → Piece → Type 0
AtScrap Q (ScrapOf k) = Q k
AtScrap Q (MathScrap k) = Q k
AtScrap Q _ = Unit {0}

pub none-braced : IsBracedScrap no_scrap
none-braced = record { braced = refl; calm = λ c. absurd cc }

-- what holds of each scrap of a list holds at each place
pub all-at : (P : Scrap → Type 0) → P no_scrap → (scraps : List Scrap) (k : ℕ) → All P scraps
    → P (get_or scraps k no_scrap)
all-at P none scraps k all = grind (arith, nat_tests, cases_lt, get_or_past)

at-braced : (scraps : List Scrap) (k : ℕ) → All IsBracedScrap scraps → IsBracedScrap (get_or scraps k no_scrap)
at-braced scraps k all = all-at IsBracedScrap none-braced scraps k all

-- what may stand between braces holds no text
may-hold : (result : RowResult) (k : ℕ) (s : Scrap) → IsBracedScrap s → IsCleanOperator s
    → may_stand result k s.cat ≡ true → HoldsNoText s
may-hold (SameAs j) k s braced clean h = braced.calm h
may-hold (Is made) k s braced clean h = go (is_calm s.cat) refl
  where
    go : (b : Bool) → is_calm s.cat ≡ b → HoldsNoText s
    go true e = braced.calm e
    go false e = clean (both-right _ _ (other-one _ _ h e))

-- ## A row that fits

module _ (row : Row) (scraps : List Scrap)
    (fits : (k : ℕ) → k < row.test_count → in_set (test row k) (get_or scraps k no_scrap).cat ≡ true) where
  -- a category that a test admits is one of those which it admits only
  pub admitted : (these : Cat → Bool) (k : ℕ) → k < row.test_count → admits_only these (test row k) ≡ true
      → these (get_or scraps k no_scrap).cat ≡ true
  admitted these k lt h = unless _ _ (every-cat (λ cat. not (in_set (test row k) cat) || these cat) h
      (get_or scraps k no_scrap).cat) (fits k lt)

  abbrev pub ScrapStands : ℕ → ℕ → Type 0
  ScrapStands m k = StandsAt m (get_or scraps k no_scrap).tree (get_or scraps k no_scrap).left
      (get_or scraps k no_scrap).right

  pub quiet-stands : (these : ℕ → Cat → Bool) (m : ℕ) (p : Piece) → AtScrap (λ k. these k (get_or scraps k no_scrap).cat
      ≡ true → ScrapStands m k) p → is_quiet these row (insertion_of p) ≡ true → Stands scraps m p
  quiet-stands these m p at h = grind (arith, nat_tests, admitted, ltb-true, both-left, both-right, math-stands)

  -- a new scrap whose pieces can stand between braces
  pub new-holds : (ps : List Piece) → braces_pair 0 ps ≡ true → All (λ p. (m : ℕ) → Stands scraps m p) (between 0 ps)
      → ((m : ℕ) → All (Stands scraps m) ps) → (c : Cat) (o : Option ℕ) → alone row.replaced ps ≡ o
      → HoldsNoText (elim o as (λ _. Scrap)
      [ Some k ↦ with_cat c (get_or scraps k no_scrap) | None ↦ join c (map (joined_of scraps) ps) ])
  new-holds ps pair held stand c (Some k) e m = All-head (Stands scraps m) (ScrapOf k) []
      (subst (All (Stands scraps m)) (alone-pieces row.replaced ps k e) (stand m))
  new-holds ps pair held stand c None e m =
      let is : m ≡ 0 + m = sym (zero-add m) in
      let lead : Lead m m (map (joined_of scraps) ps) = pieces-lead scraps m 0 m ps is pair held (stand m) in
      let here = led m m Maybe (map (joined_of scraps) ps) lead (ends-maybe m) in
      record { back = here.tree; begins = led-left m m (map (joined_of scraps) ps) lead; ends = here.ends }

module _ (row : Row) (scraps : List Scrap) (all : All IsBracedScrap scraps)
    (fits : (k : ℕ) → k < row.test_count → in_set (test row k) (get_or scraps k no_scrap).cat ≡ true)
    (tested : (k : ℕ) → row.result ≡ SameAs k → k < row.test_count) where
  -- between braces
  clean-at : (m : ℕ) (p : Piece) → PutsCleanOperator scraps p
      → AtScrap (λ k. may_stand row.result k (get_or scraps k no_scrap).cat ≡ true → ScrapStands row scraps fits m k) p
  clean-at m (ScrapOf k) clean = λ h.
      may-hold row.result k (get_or scraps k no_scrap) (at-braced scraps k all) clean h m
  clean-at m (MathScrap k) clean = λ h.
      may-hold row.result k (get_or scraps k no_scrap) (at-braced scraps k all) clean h m
  clean-at m _ clean = tt

  pub between-stand : (ps : List Piece) → are_quiet (may_stand row.result) row ps ≡ true
      → All (PutsCleanOperator scraps) ps → All (λ p. (m : ℕ) → Stands scraps m p) ps
  between-stand ps h clean = λ i d lt m.
      quiet-stands row scraps fits (may_stand row.result) m (get_or ps i d) (clean-at m (get_or ps i d) (clean i d lt))
      (AllPass-from_list_all (λ p. is_quiet (may_stand row.result) row (insertion_of p)) ps h i d lt)

  may-calm : (result : RowResult) → row.result ≡ result → is_calm (result_at result (cats_of scraps)) ≡ true
      → may_be_calm row result ≡ true
  may-calm (Is made) is calm = calm
  may-calm (SameAs j) is calm = go (admits_only (λ cat. not (is_calm cat)) (test row j)) refl
    where
      go : (b : Bool) → admits_only (λ cat. not (is_calm cat)) (test row j) ≡ b → not b ≡ true
      go false e = refl
      go true e = not-both (is_calm (get_or scraps j no_scrap).cat) (ap is_calm (sym (cats-get scraps j)) ∙ calm)
          (not-true _ (admitted row scraps fits (λ cat. not (is_calm cat)) j (tested j is) e))

  calm-at : (m : ℕ) (p : Piece) → is_calm (result_at row.result (cats_of scraps)) ≡ true
      → AtScrap (λ k. makes_calm row.result k (get_or scraps k no_scrap).cat ≡ true → ScrapStands row scraps fits m k) p
  calm-at m (ScrapOf k) calm =
      λ h. (at-braced scraps k all).calm (grind (arith, nat_tests, eqb-true, other-one, cats-get)) m
  calm-at m (MathScrap k) calm =
      λ h. (at-braced scraps k all).calm (grind (arith, nat_tests, eqb-true, other-one, cats-get)) m
  calm-at m _ calm = tt

  calm-stand : (ps : List Piece) → is_calm (result_at row.result (cats_of scraps)) ≡ true → (not (may_be_calm row
      row.result) || are_quiet (makes_calm row.result) row ps) ≡ true → (m : ℕ) → All (Stands scraps m) ps
  calm-stand ps calm h m = λ i d lt. quiet-stands row scraps fits (makes_calm row.result) m (get_or ps i d) (calm-at m
      (get_or ps i d) calm) (AllPass-from_list_all (λ p. is_quiet (makes_calm row.result) row (insertion_of p)) ps
      (unless _ _ h (may-calm row.result refl calm)) i d lt)

  -- the new scrap
  new-by : (ps : List Piece) → IsBracedRow row ps → All (PutsCleanOperator scraps) (between 0 ps) → (o : Option ℕ)
      → alone row.replaced ps ≡ o
      → IsBracedScrap (elim o as (λ _. Scrap) [
        | Some k ↦ with_cat (result_at row.result (cats_of scraps))
            (get_or scraps k no_scrap)
        | None ↦ join (result_at row.result (cats_of scraps)) (map (joined_of scraps) ps)
      ])
  new-by ps ok clean (Some k) e = record {
    braced = (at-braced scraps k all).braced;
    calm = λ c. new-holds row scraps fits ps ok.pair (between-stand (between 0 ps) ok.held clean)
        (calm-stand ps c ok.calm) (result_at row.result (cats_of scraps)) (Some k) e;
  }
  new-by ps ok clean None e = record {
    braced = (led 0 0 Maybe (map (joined_of scraps) ps) (pieces-lead scraps 0 0 0 ps refl ok.pair (between-stand
        (between 0 ps) ok.held clean) (λ i d lt. (grind (arith, nat_tests, at-braced, math-stands)))) tt).tree;
    calm = λ c. new-holds row scraps fits ps ok.pair (between-stand (between 0 ps) ok.held clean)
        (calm-stand ps c ok.calm) (result_at row.result (cats_of scraps)) None e;
  }

  pub new-braced : (flags : Flags) → row_is_braced row ≡ true → All (PutsCleanOperator scraps)
      (between 0 (row_pieces flags row (cats_of scraps))) → IsBracedScrap (new_scrap flags row scraps)
  new-braced flags h clean = new-by (row_pieces flags row (cats_of scraps)) (row-braced row h (takes_other flags
      row.action.choice (cats_of scraps))) clean (alone row.replaced (row_pieces flags row (cats_of scraps))) refl
