-- The texts of a book that are still to come.
use Rattle.cw_texts.proofs.Terms.{◌≡◌, ℕ, ◌+◌, ◌-◌, ◌<◌, ◌≤◌, List, [], ◌∷◌, ◌++◌, length, drop, sym, ap, subst, ◌∙◌}
use Rattle.cw_texts.proofs.Terms.{arith, Some, slice_get, drop_all, drop_more, get_or_from_slice_get, slice_get_within}
use Rattle.cw_texts.proofs.Terms.{Section, NameUse, TextRef, refs_left, is_printed, refs_from, section_refs}
use Rattle.cw_texts.proofs.RefLaws.{section-first}

-- nothing of a list that was given whole
drop-none : (place : ℕ) → ◌≡◌ {A = List TextRef} (drop place []) []
drop-none place = drop_all place [] (omega arith)

module _ (text : List ℕ) (uses : List NameUse) (sections : List Section) where
  section-begun : (before : ℕ) (section : Section) (list : List TextRef) → slice_get sections (before + 1 - 1)
      ≡ Some section → list ≡ section_refs (is_printed text uses section) text uses (before + 1) section
      → refs_left text uses sections (before + 1) list ≡ refs_left text uses sections before []
  section-begun before section list there is = ap (λ (refs : List TextRef). refs ++ refs_from
      (is_printed text uses) text uses (before + 1 + 1) (drop (before + 1) sections)) is
      ∙ sym (section-first (is_printed text uses) text uses sections before section there)

  -- The texts of a section are those that come first behind the sections before it.
  pub section-found : (number : ℕ) (section : Section) (list : List TextRef) → 0 < number → slice_get sections
      (number - 1) ≡ Some section → list ≡ section_refs (is_printed text uses section) text uses number section
      → refs_left text uses sections number list ≡ refs_left text uses sections (number - 1) []
  section-found number section list some there is =
      let next : number - 1 + 1 ≡ number = omega (arith, some) in
      subst (λ (n : ℕ). refs_left text uses sections n list ≡ refs_left text uses sections (number - 1) []) next
      (section-begun (number - 1) section list (subst (λ (n : ℕ). slice_get sections (n - 1) ≡ Some section) (sym next)
      there) (subst (λ (n : ℕ). list ≡ section_refs (is_printed text uses section) text uses n section) (sym next) is))

  -- the texts of one section more
  pub section-more : (begun place : ℕ) (list list' all : List TextRef) → length list ≤ place
      → refs_left text uses sections (begun + 1) list' ≡ refs_left text uses sections (begun + 1 - 1) [] → refs_left
      text uses sections begun (drop place list) ≡ all → refs_left text uses sections (begun + 1) list' ≡ all
  section-more begun place list list' all given found is =
      let same : begun + 1 - 1 ≡ begun = omega arith in
      found ∙ (ap (λ (n : ℕ). refs_left text uses sections n []) same
      ∙ (ap (refs_left text uses sections begun) (sym (drop_all place list given)) ∙ is))

  -- memory was wanting
  pub section-wanting : (begun place : ℕ) (list list' all : List TextRef) → length list ≤ place → list' ≡ [] → refs_left
      text uses sections begun (drop place list) ≡ all → refs_left text uses sections begun (drop place list') ≡ all
  section-wanting begun place list list' all given none is =
      ap (λ (refs : List TextRef). refs_left text uses sections begun (drop place refs)) none
      ∙ (ap (refs_left text uses sections begun) (drop-none place ∙ sym (drop_all place list given)) ∙ is)

  -- no text is left
  pub none-left : (begun place : ℕ) (list : List TextRef) → length list ≤ place → length sections ≤ begun
      → refs_left text uses sections begun (drop place list) ≡ []
  none-left begun place list given all = ap (refs_left text uses sections begun) (drop_all place list given)
      ∙ ap (refs_from (is_printed text uses) text uses (begun + 1)) (drop_all begun sections all)

  -- the first of those that are left, and the others
  pub one-left : (begun place : ℕ) (list : List TextRef) (first : TextRef) → slice_get list place ≡ Some first
      → refs_left text uses sections begun (drop place list)
      ≡ first ∷ refs_left text uses sections begun (drop (place + 1) list)
  one-left begun place list first there = ap (refs_left text uses sections begun)
      (drop_more list place first (slice_get_within list place first there)
      ∙ ap (λ (x : TextRef). x ∷ drop (place + 1) list) (get_or_from_slice_get list place first first there))
