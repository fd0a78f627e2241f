-- One production keeps the braces of all scraps, and so do all of them.
use Rattle.cw_brace_laws.proofs.Terms.{◌≡◌, ℕ, zero, suc, ◌+◌, ◌<◌, Bool, true, false, Option, Some, None, List, []}
use Rattle.cw_brace_laws.proofs.Terms.{◌∷◌, ◌++◌, get_or, take, drop, set, refl, sym, ap, ◌∙◌, subst, arith}
use Rattle.cw_brace_laws.proofs.Terms.{if◌then◌else◌, All, list_all, All-append, All-take, All-drop, All-set, All-map}
use Rattle.cw_brace_laws.proofs.Terms.{All-cons, both-left, both-right, in_set, Cat, RawInt, Flags, at-cats, cats-drop}
use Rattle.cw_brace_laws.proofs.Terms.{cats-get, sound-row, between, row_is_braced, first_of, row_fits, Place, Nowhere}
use Rattle.cw_brace_laws.proofs.Terms.{At, next_place, steps, weight, productions, State, cats_of, named_right}
use Rattle.cw_brace_laws.proofs.Terms.{Action, bare_name, bolded, bolded_at, named_scrap, new_scrap, reserved_at}
use Rattle.cw_brace_laws.proofs.Terms.{reserved_in, rewrite}
use Rattle.cw_brace_laws.proofs.Terms.{rewrite_from, worded_at}
use Rattle.cw_brace_laws.proofs.Terms.{row_pieces, search_in, with_cat, test, tests_of, IsSound, row_is_sound, Piece}
use Rattle.cw_brace_laws.proofs.Terms.{Row, Scrap, no_scrap, Search, Found as FoundName, HoldsNoText, IsBracedScrap}
use Rattle.cw_brace_laws.proofs.Terms.{HasCleanOperators, IsCleanOperator, PutsCleanOperator, PutsCleanOperators}
use Rattle.cw_brace_laws.proofs.Terms.{nat_tests}
use Rattle.cw_table.proofs.{FirstLaws.length-tests_of, SafeLaws.hold-at}
use Rattle.cw_table.proofs.Normals.{first-found, least-at, steps-none, steps-turn}
use Rattle.cw_table.specs.Normal.{normal}
use Rattle.cw_brace_laws.proofs.{Depths.reserve-depth, NewScraps.all-at, NewScraps.new-braced, NewScraps.none-braced}
use Rattle.cw_table.specs.declared.types.Piece.TheVariants as piece

-- ## Reserving

pub reserve-holds : (s : Scrap) → HoldsNoText s → HoldsNoText (reserved_in s)
reserve-holds s h m = record { back = reserve-depth s.tree m ∙ (h m).back; begins = (h m).begins; ends = (h m).ends }

reserve-braced : (s : Scrap) → IsBracedScrap s → IsBracedScrap (reserved_in s)
reserve-braced s h = grind (arith, nat_tests, reserve-depth, reserve-holds)

-- what reserving keeps is kept by bold
bold-keeps : (Q : Scrap → Type 0) → ((s : Scrap) → Q s → Q (reserved_in s)) → (s : Scrap) → Q s → Q (bolded s)
bold-keeps Q keeps s h = go (bare_name s.tree)
  where
    go : (o : Option ℕ) → Q (elim o as (λ _. Scrap) [ Some name ↦ reserved_in s | None ↦ s ])
    go None = h
    go (Some name) = keeps s h

-- a scrap at a place is as before, or it was made another one
set-at : (Q : Scrap → Type 0) (f : Scrap → Scrap) → ((s : Scrap) → Q s → Q (f s)) → (scraps : List Scrap) (n k : ℕ)
    → Q (get_or scraps k no_scrap) → Q (get_or (set scraps n (f (get_or scraps n no_scrap))) k no_scrap)
set-at Q f keeps (s ∷ scraps) zero zero h = keeps s h
set-at Q f keeps (s ∷ scraps) (suc n) (suc k) h = set-at Q f keeps scraps n k h
set-at _ _ _ _ _ _ h = h

clean-reserve : (s : Scrap) → IsCleanOperator s → IsCleanOperator (reserved_in s)
clean-reserve s h e = reserve-holds s (h e)

clean-reserved : (o : Option ℕ) (scraps : List Scrap) (k : ℕ) → IsCleanOperator (get_or scraps k no_scrap)
    → IsCleanOperator (get_or (reserved_at o scraps) k no_scrap)
clean-reserved None scraps k h = h
clean-reserved (Some n) scraps k h = set-at IsCleanOperator reserved_in clean-reserve scraps n k h

clean-bolded : (o : Option ℕ) (scraps : List Scrap) (k : ℕ) → IsCleanOperator (get_or scraps k no_scrap)
    → IsCleanOperator (get_or (bolded_at o scraps) k no_scrap)
clean-bolded None scraps k h = h
clean-bolded (Some n) scraps k h =
    set-at IsCleanOperator bolded (bold-keeps IsCleanOperator clean-reserve) scraps n k h

clean-scrap : (action : Action) (scraps : List Scrap) (k : ℕ) → IsCleanOperator (get_or scraps k no_scrap)
    → IsCleanOperator (get_or (worded_at action scraps) k no_scrap)
clean-scrap action scraps k h =
    clean-bolded action.bold (reserved_at action.reserve scraps) k (clean-reserved action.reserve scraps k h)

clean-piece : (action : Action) (scraps : List Scrap) (p : Piece) → PutsCleanOperator scraps p
    → PutsCleanOperator (worded_at action scraps) p
clean-piece action scraps (piece.Scrap k) h = clean-scrap action scraps k h
clean-piece action scraps (piece.MathScrap k) h = clean-scrap action scraps k h
clean-piece action scraps _ h = tt

-- ## Keeping

-- What holds of each scrap holds of each that a production leaves, if it holds of the new one.
module _ (P : Scrap → Type 0) (none : P no_scrap) (reserves : (s : Scrap) → P s → P (reserved_in s))
    (types : (s : Scrap) → P s → P (with_cat RawInt (reserved_in s))) where
  set-keeps : (f : Scrap → Scrap) → ((s : Scrap) → P s → P (f s)) → (scraps : List Scrap) (k : ℕ) → All P scraps
      → All P (set scraps k (f (get_or scraps k no_scrap)))
  set-keeps f keeps scraps k all = All-set P scraps k (f (get_or scraps k no_scrap))
      (keeps (get_or scraps k no_scrap) (all-at P none scraps k all)) all

  reserved-keeps : (o : Option ℕ) (scraps : List Scrap) → All P scraps → All P (reserved_at o scraps)
  reserved-keeps None scraps all = all
  reserved-keeps (Some k) scraps all = set-keeps reserved_in reserves scraps k all

  bolded-keeps : (o : Option ℕ) (scraps : List Scrap) → All P scraps → All P (bolded_at o scraps)
  bolded-keeps None scraps all = all
  bolded-keeps (Some k) scraps all = set-keeps bolded (bold-keeps P reserves) scraps k all

  pub named-keeps : (action : Action) (scraps : List Scrap) → All P scraps → All P (worded_at action scraps)
  named-keeps action scraps all =
      bolded-keeps action.bold (reserved_at action.reserve scraps) (reserved-keeps action.reserve scraps all)

  right-keeps : (found : Search) (scraps : List Scrap) → All P scraps → All P (named_right found scraps)
  right-keeps (FoundName name) scraps all = All-map P (named_scrap name) scraps (λ k d h. (grind (arith, nat_tests)))
  right-keeps _ _ all = all

  pub rewritten-keeps : (flags : Flags) (row : Row) (scraps : List Scrap) → All P scraps
      → P (new_scrap flags row (worded_at row.action scraps)) → All P (rewrite_from flags row scraps)
  rewritten-keeps flags row scraps all new =
      let kept : All P (worded_at row.action scraps) = named-keeps row.action scraps all in
      All-append P (take row.offset (worded_at row.action scraps))
      (new_scrap flags row (worded_at row.action scraps) ∷ named_right (search_in row.action.reserve scraps)
      (drop (row.offset + row.replaced) (worded_at row.action scraps)))
      (All-take P row.offset (worded_at row.action scraps) kept) (All-cons P
      (new_scrap flags row (worded_at row.action scraps)) (named_right (search_in row.action.reserve scraps)
      (drop (row.offset + row.replaced) (worded_at row.action scraps))) new (right-keeps
      (search_in row.action.reserve scraps) (drop (row.offset + row.replaced) (worded_at row.action scraps))
      (All-drop P (row.offset + row.replaced) (worded_at row.action scraps) kept)))

-- ## One production

types-braced : (s : Scrap) → IsBracedScrap s → IsBracedScrap (with_cat RawInt (reserved_in s))
types-braced s h = record { braced = (reserve-braced s h).braced; calm = λ c. absurd cc }

pub fits-at : (row : Row) (scraps : List Scrap) → IsSound row → row_fits row (cats_of scraps) ≡ true → (k : ℕ)
    → k < row.test_count → in_set (test row k) (get_or scraps k no_scrap).cat ≡ true
fits-at row scraps sound fits k lt =
    let count = length-tests_of row sound in
    ap (in_set (test row k)) (sym (cats-get scraps k))
    ∙ hold-at (tests_of row) (cats_of scraps) k fits (omega (arith, count, lt))

rewritten-braced : (flags : Flags) (row : Row) (scraps : List Scrap) → IsSound row → row_is_braced row ≡ true
    → row_fits row (cats_of scraps) ≡ true → PutsCleanOperators flags row scraps → All IsBracedScrap scraps
    → All IsBracedScrap (rewrite_from flags row scraps)
rewritten-braced flags row scraps sound braced fits clean all =
    let named : List Scrap = worded_at row.action scraps in
    let same = at-cats row.action scraps in
    let kept : All IsBracedScrap (worded_at row.action scraps) =
    named-keeps IsBracedScrap none-braced reserve-braced types-braced row.action scraps all in
    let held : All (PutsCleanOperator (worded_at row.action scraps)) (between 0
    (row_pieces flags row (cats_of (worded_at row.action scraps)))) = subst (λ cats. All (PutsCleanOperator
    (worded_at row.action scraps)) (between 0 (row_pieces flags row cats))) (sym same) (λ i d lt. clean-piece
    row.action scraps (get_or (between 0 (row_pieces flags row (cats_of scraps))) i d) (clean i d lt)) in
    rewritten-keeps IsBracedScrap none-braced reserve-braced types-braced flags row scraps all (new-braced row
    (worded_at row.action scraps) kept (fits-at row (worded_at row.action scraps) sound
    (ap (row_fits row) same ∙ fits)) sound.same_as_tested flags braced held)

pub production-keeps : (flags : Flags) (row : Row) (place : ℕ) (scraps : List Scrap) → row_is_sound row ≡ true
    → row_is_braced row ≡ true → row_fits row (cats_of (drop place scraps)) ≡ true
    → PutsCleanOperators flags row (drop place scraps) → All IsBracedScrap scraps
    → All IsBracedScrap (take place scraps ++ rewrite_from flags row (drop place scraps))
production-keeps flags row place scraps sound braced fits clean all = All-append IsBracedScrap (take place scraps)
    (rewrite_from flags row (drop place scraps)) (All-take IsBracedScrap place scraps all) (rewritten-braced flags row
    (drop place scraps) (sound-row row sound) braced fits clean (All-drop IsBracedScrap place scraps all))

-- ## All productions

first-passes : (p : Row → Bool) (rows : List Row) (cs : List Cat) (r : Row) → list_all p rows ≡ true
    → first_of rows cs ≡ Some r → p r ≡ true
first-passes p [] cs r all h = absurd cc
first-passes p (x ∷ rows) cs r all h = go (λ k. first-passes p rows cs r (both-right (p x) _ all) k) (row_fits x cs) h
  where
    go : (first_of rows cs ≡ Some r → p r ≡ true) → (b : Bool)
        → (if b then Some x else first_of rows cs) ≡ Some r → p r ≡ true
    go rec true h = let same : x ≡ r = cc in ap p (sym same) ∙ both-left (p x) _ all
    go rec false h = rec h

-- the row of a production is one of the table that fits
pub record Taken (row : Row) (scraps : List Scrap) : Type 0 where
  pub fits : row_fits row (cats_of scraps) ≡ true
  pub sound : row_is_sound row ≡ true
  pub passes : (p : Row → Bool) → list_all p productions ≡ true → p row ≡ true

pub taken : list_all row_is_sound productions ≡ true → (st : State) (i : ℕ) (r : Row)
    → next_place productions st ≡ At i r → Taken r (drop i st.scraps)
taken sound st i r e =
    grind (arith, least-at productions 0 (cats_of st.scraps) i r e, cats-drop, first-found, first-passes)

-- what each production keeps is kept by all
pub steps-keep : (flags : Flags) (Q : State → Type 0) → ((st : State) (i : ℕ) (r : Row) → next_place productions st ≡ At
    i r → Q st → Q (rewrite flags r i st)) → (n : ℕ) (st : State) → Q st → Q (steps productions flags n st)
steps-keep flags Q next zero st h = h
steps-keep flags Q next (suc n) st h = go (next_place productions st) refl (λ s. steps-keep flags Q next n s)
  where
    go : (p : Place) → next_place productions st ≡ p → ((s : State) → Q s → Q (steps productions flags n s))
        → Q (steps productions flags (suc n) st)
    go Nowhere e rec = subst Q (sym (steps-none productions flags (suc n) st e)) h
    go (At i r) e rec =
        subst Q (sym (steps-turn productions flags n i r st e)) (rec (rewrite flags r i st) (next st i r e h))

-- the productions behind the first
later-clean : (flags : Flags) (st : State) (i : ℕ) (r : Row) → next_place productions st ≡ At i r
    → HasCleanOperators flags st → HasCleanOperators flags (rewrite flags r i st)
later-clean flags st i r e clean = λ number place row. subst
    (λ (s : State). next_place productions s ≡ At place row → PutsCleanOperators flags row (drop place s.scraps))
    (steps-turn productions flags number i r st e) (clean (suc number) place row)

pub normal-keeps : (flags : Flags) → list_all row_is_sound productions ≡ true
    → list_all row_is_braced productions ≡ true → (st : State) → HasCleanOperators flags st
    → All IsBracedScrap st.scraps → All IsBracedScrap (normal productions flags st).scraps
unfolding normal
normal-keeps flags sound braced st clean all =
    (steps-keep flags (λ s. HasCleanOperators flags s × All IsBracedScrap s.scraps) (λ s i r e h.
    let t = taken sound s i r e in (
      later-clean flags s i r e h.0,
      production-keeps flags r i s.scraps t.sound (t.passes row_is_braced braced) t.fits (h.0 0 i r e) h.1,
    )) (weight st.scraps) st (clean, all)).1
