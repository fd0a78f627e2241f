-- Names that are added, or whose categories change: they keep their places and texts, stay apart, and have categories.
use Rattle.cw_log_laws.proofs.Terms.{◌≡◌, ◌≢◌, ℕ, zero, suc, ◌+◌, ◌≤◌, Bool, true, false, not, cond, nat_eq, List, []}
use Rattle.cw_log_laws.proofs.Terms.{◌∷◌, ◌++◌, length, map, slice_get, Option, refl, arith, AllByRecursion, list_all}
use Rattle.cw_log_laws.proofs.Terms.{both-left, both-right, not-true, is_end, pointwise, ltb-false, Cat, End, EntryKind}
use Rattle.cw_log_laws.proofs.Terms.{Entry, same_kind, is_entry, place_of, with_entry, AreDistinct, IsKept, IsLater}
use Rattle.std.specs.List.{IsDistinct}
use Rattle.std.proofs.lemmas.Cmp.{nat_list_eq_equiv}
use Rattle.cw_translator.specs.Translating.{with_categories}

-- ## Places

kept-same : (o : Option Entry) → IsKept o o
kept-same o = grind arith

kept-on : (o p q : Option Entry) → IsKept o p → IsKept p q → IsKept o q
kept-on o p q h g = grind arith

pub later-same : (names : List Entry) → IsLater names names
later-same names k = kept-same (slice_get names k)

pub later-on : (names next last : List Entry) → IsLater names next → IsLater next last → IsLater names last
later-on names next last h g k = kept-on (slice_get names k) (slice_get next k) (slice_get last k) (h k) (g k)

later-more : (es more : List Entry) → IsLater es (es ++ more)
later-more [] more k = tt
later-more (e ∷ es) more zero = (refl, refl)
later-more (e ∷ es) more (suc k) = later-more es more k

pub later-entry : (kind : EntryKind) (text : List ℕ) (es : List Entry) → IsLater es (with_entry kind text es)
later-entry kind text es = grind (arith, later-same, later-more)

pub later-categories : (cats : List Cat) (es : List Entry) → IsLater es (with_categories cats es)
later-categories [] es k = kept-same (slice_get es k)
later-categories (c ∷ cats) [] k = tt
later-categories (c ∷ cats) (e ∷ es) zero = (refl, refl)
later-categories (c ∷ cats) (e ∷ es) (suc k) = later-categories cats es k

-- ## No two are alike

kind-flips : (k l : EntryKind) → same_kind k l ≡ same_kind l k
kind-flips k l = grind arith

text-flips : (t u : List ℕ) → pointwise nat_eq t u ≡ pointwise nat_eq u t
text-flips t u = nat_list_eq_equiv.symm t u

flips : (e d : Entry) → is_entry e.kind e.text d ≡ is_entry d.kind d.text e
flips e d = grind (arith, nat_eq, kind-flips, text-flips)

abbrev AreOthers : Entry → List Entry → Type 0
AreOthers e es = AllByRecursion (λ d. is_entry e.kind e.text d ≡ false) es

others-more : (e n : Entry) (es : List Entry) → AreOthers e es → is_entry e.kind e.text n ≡ false
    → AreOthers e (es ++ n ∷ [])
others-more e n [] all h = (h, tt)
others-more e n (d ∷ es) all h = (all.0, others-more e n es all.1 h)

distinct-more : (n : Entry) (es : List Entry) → AreDistinct es → AreOthers n es → AreDistinct (es ++ n ∷ [])
unfolding IsDistinct
distinct-more n [] d all = (tt, tt)
distinct-more n (e ∷ es) d all = grind (arith, distinct-more n es d.1 all.1, others-more, flips)

none-there : (kind : EntryKind) (text : List ℕ) (category : Cat) (es : List Entry) → length es ≤ place_of kind text es
    → AreOthers (record { kind = kind; text = text; category = category }) es
none-there kind text category [] h = tt
none-there kind text category (e ∷ es) h = by (is_entry kind text e) refl h (λ g. none-there kind text category es g)
  where
    by : (b : Bool) → is_entry kind text e ≡ b → suc (length es) ≤ cond (not b) (1 + place_of kind text es) 0
        → (length es ≤ place_of kind text es → AreOthers (record { kind = kind; text = text; category = category }) es)
        → AreOthers (record { kind = kind; text = text; category = category }) (e ∷ es)
    by true i h rest = absurd (omega (arith, h))
    by false i h rest = (i, rest (omega (arith, h)))

pub distinct-entry : (kind : EntryKind) (text : List ℕ) (es : List Entry) → AreDistinct es
    → AreDistinct (with_entry kind text es)
distinct-entry kind text es d = grind (arith, distinct-more, none-there, ltb-false)

others-categories : (e : Entry) (cats : List Cat) (es : List Entry) → AreOthers e es
    → AreOthers e (with_categories cats es)
others-categories e [] es all = all
others-categories e (c ∷ cats) [] all = tt
others-categories e (c ∷ cats) (d ∷ es) all = (all.0, others-categories e cats es all.1)

pub distinct-categories : (cats : List Cat) (es : List Entry) → AreDistinct es → AreDistinct (with_categories cats es)
unfolding IsDistinct
distinct-categories [] es d = d
distinct-categories (c ∷ cats) [] d = tt
distinct-categories (c ∷ cats) (e ∷ es) d = grind (arith, distinct-categories cats es d.1, others-categories)

-- ## Categories

abbrev pub AreReal : List Cat → Type 0
AreReal [] = Unit {0}
AreReal (c ∷ cats) = (c ≢ End) × AreReal cats

abbrev pub HaveCats : List Entry → Type 0
HaveCats [] = Unit {0}
HaveCats (e ∷ es) = (e.category ≢ End) × HaveCats es

have-more : (n : Entry) (es : List Entry) → HaveCats es → n.category ≢ End → HaveCats (es ++ n ∷ [])
have-more n [] all h = (h, tt)
have-more n (e ∷ es) all h = (all.0, have-more n es all.1 h)

pub have-entry : (kind : EntryKind) (text : List ℕ) (es : List Entry) → HaveCats es → HaveCats (with_entry kind text es)
have-entry kind text es all = grind (arith, have-more)

pub have-categories : (cats : List Cat) (es : List Entry) → AreReal cats → HaveCats es
    → HaveCats (with_categories cats es)
have-categories [] es real all = all
have-categories (c ∷ cats) [] real all = tt
have-categories (c ∷ cats) (e ∷ es) real all = (real.0, have-categories cats es real.1 all.1)

pub cats-real : (es : List Entry) → HaveCats es → AreReal (map (λ e. e.category) es)
cats-real [] all = tt
cats-real (e ∷ es) all = (all.0, cats-real es all.1)

-- the same as a test
abbrev pub are_real : List Entry → Bool
are_real es = list_all (λ e. not (is_end e.category)) es

not-end : (c : Cat) → is_end c ≡ false → c ≢ End
not-end c h = grind arith

pub real-law : (es : List Entry) → are_real es ≡ true → HaveCats es
real-law [] h = tt
real-law (e ∷ es) h =
    (not-end e.category (not-true (is_end e.category) (both-left _ _ h)), real-law es (both-right _ _ h))
