-- In a text without comments, `#` lines, question marks and attributes no production gives text to an operator.
use Rattle.cw_brace_laws.proofs.Terms.{arith, ◌≡◌, ℕ, ◌<◌, Bool, true, false, not, ◌&&◌, ◌||◌, eqb, ltb, List, get_or}
use Rattle.cw_brace_laws.proofs.Terms.{take, drop, refl, sym, ap, ◌∙◌, nat_tests, All, list_all, eqb-true, ltb-true}
use Rattle.cw_brace_laws.proofs.Terms.{All-append, All-drop, All-take, AllPass-from_list_all, both, both-left}
use Rattle.cw_brace_laws.proofs.Terms.{both-right, not-both, not-true, other-one, unless, in_set, Cat, RawInt, Flags}
use Rattle.cw_brace_laws.proofs.Terms.{rows-braced, productions-sound, at-cats, cats-get, sound-row, admits_only}
use Rattle.cw_brace_laws.proofs.Terms.{are_quiet, between, is_quiet, may_stand, row_is_braced, row_fits, insertion_of}
use Rattle.cw_brace_laws.proofs.Terms.{At, next_place, steps, State, alone, cats_of, new_scrap, worded_at}
use Rattle.cw_brace_laws.proofs.Terms.{reserved_in, rewrite, rewrite_from, row_pieces, takes_other, with_cat}
use Rattle.cw_brace_laws.proofs.Terms.{pieces_for, result_at, test, IsSound, Piece, MathScrap, Row, RowResult, Is}
use Rattle.cw_brace_laws.proofs.Terms.{SameAs, Scrap, no_scrap, HoldsNoText, StandsAt, HasCleanOperators}
use Rattle.cw_brace_laws.proofs.Terms.{PutsCleanOperator, IsPlainText, is_plain}
use Rattle.cw_table.specs.{Productions.productions, declared.types.Piece.TheVariants.Scrap as ScrapOf}
use Rattle.cw_brace_laws.proofs.CleanScraps.{IsLeafScrap, binop-clean, calm-clean, is_clean}
use Rattle.cw_brace_laws.proofs.NewScraps.{AtScrap, IsBracedRow, admitted, all-at, new-holds, quiet-stands, row-braced}
use Rattle.cw_brace_laws.proofs.Productions.{fits-at, named-keeps, reserve-holds, rewritten-keeps, steps-keep, taken}
use Rattle.cw_brace_laws.proofs.RowPieces.{Stands}

-- ## The test of a row

-- one of its tests admits nothing plain
abbrev asks : Row → ℕ → Bool
asks row k = ltb k row.test_count && admits_only (λ cat. not (is_plain cat)) (test row k)

abbrev never_fits : Row → Bool
never_fits row = asks row 0 || asks row 1 || asks row 2 || asks row 3

abbrev plain_result : RowResult → Bool
plain_result (Is made) = is_plain made
plain_result (SameAs k) = true

abbrev may_be_clean : Row → RowResult → Bool
may_be_clean row (Is made) = is_clean made
may_be_clean row (SameAs k) = not (admits_only (λ cat. not (is_plain cat && is_clean cat)) (test row k))

-- of what a clean result is made, where all is plain
abbrev makes_clean : RowResult → ℕ → Cat → Bool
makes_clean (Is made) k cat = not (is_plain cat) || is_clean cat
makes_clean (SameAs q) k cat = not (is_plain cat) || (is_clean cat || eqb k q)

abbrev plain_pieces : Row → List Piece → Bool
plain_pieces row pieces = not (may_be_clean row row.result) || are_quiet (makes_clean row.result) row pieces

-- a row that fits no plain text, or makes a plain scrap, and a clean one of clean ones
unfoldable row_is_plain : Row → Bool
row_is_plain row = never_fits row
    || (plain_result row.result && (plain_pieces row (pieces_for false row) && plain_pieces row (pieces_for true row)))

rows-plain : list_all row_is_plain productions ≡ true
unfolding productions row_is_plain
rows-plain = refl

-- ## Scraps

pub record IsPlainScrap (scrap : Scrap) : Type 0 where
  pub plain : is_plain scrap.cat ≡ true
  pub clean : is_clean scrap.cat ≡ true → HoldsNoText scrap

none-plain : IsPlainScrap no_scrap
none-plain = record { plain = refl; clean = λ c. absurd cc }

reserve-plain : (s : Scrap) → IsPlainScrap s → IsPlainScrap (reserved_in s)
reserve-plain s h = record { plain = h.plain; clean = λ c. reserve-holds s (h.clean c) }

types-plain : (s : Scrap) → IsPlainScrap s → IsPlainScrap (with_cat RawInt (reserved_in s))
types-plain s h = record { plain = refl; clean = λ c. absurd cc }

-- what may stand between braces is clean
stand-clean : (result : RowResult) (k : ℕ) (c : Cat) → may_stand result k c ≡ true → is_clean c ≡ true
stand-clean result k c h = grind (arith, nat_tests, calm-clean, is_clean, binop-clean, both-right, other-one)

none-of-two : (a b : Bool) → a ≡ false → b ≡ false → (a || b) ≡ false
none-of-two a b h k = grind (arith, nat_tests)

-- ## A row that fits plain scraps

module _ (row : Row) (scraps : List Scrap) (all : All IsPlainScrap scraps)
    (fits : (k : ℕ) → k < row.test_count → in_set (test row k) (get_or scraps k no_scrap).cat ≡ true)
    (tested : (k : ℕ) → row.result ≡ SameAs k → k < row.test_count) where
  at : (k : ℕ) → IsPlainScrap (get_or scraps k no_scrap)
  at k = all-at IsPlainScrap none-plain scraps k all

  not-asked : (k : ℕ) → asks row k ≡ false
  not-asked k = go (asks row k) refl
    where
      go : (b : Bool) → asks row k ≡ b → b ≡ false
      go false e = refl
      go true e = not-both (is_plain (get_or scraps k no_scrap).cat) (at k).plain (not-true _
          (admitted row scraps fits (λ cat. not (is_plain cat)) k (ltb-true _ _ (both-left _ _ e)) (both-right _ _ e)))

  works : row_is_plain row ≡ true → (plain_result row.result &&
      (plain_pieces row (pieces_for false row) && plain_pieces row (pieces_for true row))) ≡ true
  unfolding row_is_plain
  works h = other-one _ _ h (none-of-two (asks row 0 || asks row 1 || asks row 2) (asks row 3)
      (none-of-two (asks row 0 || asks row 1) (asks row 2)
      (none-of-two (asks row 0) (asks row 1) (not-asked 0) (not-asked 1)) (not-asked 2)) (not-asked 3))

  works-by : row_is_plain row ≡ true → (other : Bool) → plain_pieces row (pieces_for other row) ≡ true
  works-by h other = grind (arith, nat_tests, both-right, works, both-left)

  result-plain : (result : RowResult) → plain_result result ≡ true → is_plain (result_at result (cats_of scraps)) ≡ true
  result-plain (Is made) h = h
  result-plain (SameAs k) h = ap is_plain (cats-get scraps k) ∙ (at k).plain

  same-clean : (result : RowResult) (k : ℕ) → is_clean (result_at result (cats_of scraps)) ≡ true
      → makes_clean result k (get_or scraps k no_scrap).cat ≡ true → is_clean (get_or scraps k no_scrap).cat ≡ true
  same-clean result k clean h = grind (arith, nat_tests, unless, at, is_clean, eqb-true, other-one, cats-get)

  may-clean : (result : RowResult) → row.result ≡ result → is_clean (result_at result (cats_of scraps)) ≡ true
      → may_be_clean row result ≡ true
  may-clean (Is made) is clean = clean
  may-clean (SameAs j) is clean = go (admits_only (λ cat. not (is_plain cat && is_clean cat)) (test row j)) refl
    where
      go : (b : Bool) → admits_only (λ cat. not (is_plain cat && is_clean cat)) (test row j) ≡ b → not b ≡ true
      go false e = refl
      go true e = not-both (is_plain (get_or scraps j no_scrap).cat && is_clean (get_or scraps j no_scrap).cat)
          (both _ _ (at j).plain (ap is_clean (sym (cats-get scraps j)) ∙ clean))
          (not-true _ (admitted row scraps fits (λ cat. not (is_plain cat && is_clean cat)) j (tested j is) e))

  held-at : (m : ℕ) (p : Piece) → AtScrap (λ k. may_stand row.result k (get_or scraps k no_scrap).cat ≡ true → StandsAt
      m (get_or scraps k no_scrap).tree (get_or scraps k no_scrap).left (get_or scraps k no_scrap).right) p
  held-at m (ScrapOf k) = λ h. (at k).clean (stand-clean row.result k (get_or scraps k no_scrap).cat h) m
  held-at m (MathScrap k) = λ h. (at k).clean (stand-clean row.result k (get_or scraps k no_scrap).cat h) m
  held-at m _ = tt

  held-stand : (ps : List Piece) → are_quiet (may_stand row.result) row ps ≡ true
      → All (λ p. (m : ℕ) → Stands scraps m p) ps
  held-stand ps h = λ i d lt m. quiet-stands row scraps fits (may_stand row.result) m (get_or ps i d) (held-at m
      (get_or ps i d)) (AllPass-from_list_all (λ p. is_quiet (may_stand row.result) row (insertion_of p)) ps h i d lt)

  clean-at : (m : ℕ) (p : Piece) → is_clean (result_at row.result (cats_of scraps)) ≡ true
      → AtScrap (λ k. makes_clean row.result k (get_or scraps k no_scrap).cat ≡ true
      → StandsAt m (get_or scraps k no_scrap).tree (get_or scraps k no_scrap).left (get_or scraps k no_scrap).right) p
  clean-at m (ScrapOf k) clean = λ h. (at k).clean (same-clean row.result k clean h) m
  clean-at m (MathScrap k) clean = λ h. (at k).clean (same-clean row.result k clean h) m
  clean-at m _ clean = tt

  clean-stand : (ps : List Piece) → is_clean (result_at row.result (cats_of scraps)) ≡ true
      → plain_pieces row ps ≡ true → (m : ℕ) → All (Stands scraps m) ps
  clean-stand ps clean h m = λ i d lt. quiet-stands row scraps fits (makes_clean row.result) m (get_or ps i d)
      (clean-at m (get_or ps i d) clean) (AllPass-from_list_all (λ p. is_quiet (makes_clean row.result) row
      (insertion_of p)) ps (unless _ _ h (may-clean row.result refl clean)) i d lt)

  new-cat : (flags : Flags) → (new_scrap flags row scraps).cat ≡ result_at row.result (cats_of scraps)
  new-cat flags = grind (arith, nat_tests)

  new-plain : (flags : Flags) → row_is_braced row ≡ true → row_is_plain row ≡ true
      → IsPlainScrap (new_scrap flags row scraps)
  new-plain flags braced plain =
      let ok : IsBracedRow row (row_pieces flags row (cats_of scraps)) =
      row-braced row braced (takes_other flags row.action.choice (cats_of scraps)) in
      record {
        plain = ap is_plain (new-cat flags) ∙ result-plain row.result (both-left _ _ (works plain));
        clean = λ c. new-holds row scraps fits (row_pieces flags row (cats_of scraps)) ok.pair (held-stand (between 0
            (row_pieces flags row (cats_of scraps))) ok.held) (clean-stand (row_pieces flags row (cats_of scraps)) (ap
            is_clean (sym (new-cat flags)) ∙ c) (works-by plain (takes_other flags row.action.choice (cats_of scraps))))
            (result_at row.result (cats_of scraps)) (alone row.replaced (row_pieces flags row (cats_of scraps))) refl;
      }

-- ## Productions

plain-rewritten : (flags : Flags) (row : Row) (scraps : List Scrap) → IsSound row → row_is_braced row ≡ true
    → row_is_plain row ≡ true → row_fits row (cats_of scraps) ≡ true → All IsPlainScrap scraps
    → All IsPlainScrap (rewrite_from flags row scraps)
plain-rewritten flags row scraps sound braced plain fits all = rewritten-keeps IsPlainScrap none-plain reserve-plain
    types-plain flags row scraps all (new-plain row (worded_at row.action scraps)
    (named-keeps IsPlainScrap none-plain reserve-plain types-plain row.action scraps all)
    (fits-at row (worded_at row.action scraps) sound (ap (row_fits row) (at-cats row.action scraps)
    ∙ fits)) sound.same_as_tested flags braced plain)

abbrev HasPlainScraps : State → Type 0
HasPlainScraps state = All IsPlainScrap state.scraps

plain-next : (flags : Flags) (st : State) (i : ℕ) (r : Row) → next_place productions st ≡ At i r → HasPlainScraps st
    → HasPlainScraps (rewrite flags r i st)
plain-next flags st i r e all =
    let t = taken productions-sound st i r e in
    All-append IsPlainScrap (take i st.scraps) (rewrite_from flags r (drop i st.scraps))
    (All-take IsPlainScrap i st.scraps all) (plain-rewritten flags r (drop i st.scraps) (sound-row r t.sound) (t.passes
    row_is_braced rows-braced) (t.passes row_is_plain rows-plain) t.fits (All-drop IsPlainScrap i st.scraps all))

-- so the operators that a production puts between braces hold no text
clean-piece : (scraps : List Scrap) (p : Piece) → All IsPlainScrap scraps → PutsCleanOperator scraps p
clean-piece scraps (ScrapOf k) all = λ b.
    (all-at IsPlainScrap none-plain scraps k all).clean (binop-clean (get_or scraps k no_scrap).cat b)
clean-piece scraps (MathScrap k) all = λ b.
    (all-at IsPlainScrap none-plain scraps k all).clean (binop-clean (get_or scraps k no_scrap).cat b)
clean-piece scraps _ all = tt

plain-clean : (flags : Flags) (st : State) → HasPlainScraps st → HasCleanOperators flags st
plain-clean flags st all number place row e = λ i d lt. clean-piece
    (drop place (steps productions flags number st).scraps) (get_or (between 0 (row_pieces flags row
    (cats_of (drop place (steps productions flags number st).scraps)))) i d) (All-drop IsPlainScrap place
    (steps productions flags number st).scraps (steps-keep flags HasPlainScraps (plain-next flags) number st all))

-- a text of leaves
pub text-clean : (flags : Flags) (st : State) → IsPlainText st → All IsLeafScrap st.scraps → HasCleanOperators flags st
text-clean flags st plain all = plain-clean flags st (λ i d lt. record {
  plain = AllPass-from_list_all (λ (scrap : Scrap). is_plain scrap.cat) st.scraps plain i d lt;
  clean = (all i d lt).clean;
})
