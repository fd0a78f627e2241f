-- The earliest name that passes is the least position, among those near a text, of a name that passes.
use Rattle.std.proofs.Common.{◌≡◌, ℕ, zero, suc, ◌+◌, ◌-◌, ◌<◌, ◌≤◌, ◌&&◌, ◌==◌, ◌⊎◌, inl, inr, Bool, true, false}
use Rattle.std.proofs.Common.{nat_lt, nat_le, nat_eq, List, [], ◌∷◌, ◌++◌, Option, Some, None, IfSome, slice_set}
use Rattle.std.proofs.Common.{option_map, map, length, drop, take, get_or, cond, refl, ap, ◌∙◌, sym, subst, arith}
use Rattle.std.proofs.Common.{add-zero, zero-add, length-drop, get_or-drop, eqb-true, lt-ltb, ltb-true, ltb-false}
use Rattle.std.proofs.Common.{le-ltb, leb-true, le-leb}
use Rattle.std.specs.List.{position, position_or_len}
use Rattle.std.proofs.{lemmas.List.Sums.position_or_len_is, lemmas.Bool.Decides.nat_tests, lemmas.Grind.common_steps}
use Rattle.cw_base.proofs.TestLaws.{one-left, one-right}
use Rattle.cw_secnames.specs.declared.{kinds.SecKind.SecKind, kinds.SecKind.TheVariants.Named, sec_names.Asked.Asked}
use Rattle.cw_secnames.specs.declared.{sec_names.KeptName.KeptName, marks.Marks.Marks, kinds.RefKind.RefKind}
use Rattle.cw_secnames.specs.{References.with_reference, References.with_section, model.Inside.name_of}
use Rattle.cw_secnames.specs.Kept.{SecName, same_name_kind, is_beginning_of, unreferred}
use Rattle.cw_secnames.specs.model.Asked.{kind_asked, passes, passes_at, is_below, chosen, is_lesser, least_of}
use Rattle.cw_secnames.specs.Marks.{is_one_of}
use Rattle.cw_secnames.specs.model.Marks.{is_near, IsNear, IsMarked, KeepsMarks, AreMarked, HoldNear}
use Rattle.cw_secnames.proofs.{Finding.length-named, Marked.both, Marked.and-yes, Marked.or-yes, Marked.begins-self}

-- ## All names are marked

pub marked-more : (marks more : Marks) (k : ℕ) (names : List SecName) → KeepsMarks marks more → AreMarked marks k names
    → AreMarked more k names
marked-more marks more k [] keeps h = tt
marked-more marks more k (n ∷ names) keeps h = grind (arith, marked-more marks more (k + 1) names keeps h.1, keeps)

marked-by : (marks : Marks) (k : ℕ) (how : RefKind) (section : ℕ) (n : SecName) (names : List SecName)
    → AreMarked marks k (n ∷ names) → AreMarked marks k (with_section how section n ∷ names)
marked-by marks k how section n names h = grind arith

pub marked-with_reference : (marks : Marks) (k i : ℕ) (how : RefKind) (section : ℕ) (names : List SecName)
    → AreMarked marks k names → AreMarked marks k (with_reference i how section names)
marked-with_reference marks k i how section [] h = tt
marked-with_reference marks k zero how section (n ∷ names) h = marked-by marks k how section n names h
marked-with_reference marks k (suc i) how section (n ∷ names) h =
    (h.0, marked-with_reference marks (k + 1) i how section names h.1)

-- ## The names near a text

same : (a b : SecKind) → same_name_kind a b ≡ true → b ≡ a
same a b h = grind arith

pub holds : (marks : Marks) (near : List ℕ) (kind : SecKind) (text : List ℕ) (k : ℕ) (names : List SecName)
    → AreMarked marks k names → ((other : List ℕ) (k : ℕ) → IsMarked marks kind other k → IsNear other text → is_one_of
    k near ≡ true) → HoldNear near kind text k names
holds marks near kind text k [] h f = tt
holds marks near kind text k (n ∷ names) h f = grind (arith, holds marks near kind text (k + 1) names h.1 f, both, same)

begun : (kind : SecKind) (text : List ℕ) (n : SecName) → same_name_kind kind n.kind ≡ true
    → is_beginning_of n.text text ≡ true → is_near kind text n ≡ true
begun kind text n h k = grind (arith, and-yes, one-left)

begins-it : (kind : SecKind) (text : List ℕ) (n : SecName) → same_name_kind kind n.kind ≡ true
    → is_beginning_of text n.text ≡ true → is_near kind text n ≡ true
begins-it kind text n h k = grind (arith, and-yes, one-right)

-- a name that passes is near
passes-near : (asked : Asked) (text : List ℕ) (n : SecName) → passes asked text n ≡ true
    → is_near (kind_asked asked) text n ≡ true
passes-near asked text n h = grind (arith, nat_tests, common_steps, nat_eq, both, begins-it, begins-self, begun, or-yes)

pub is-held : (near : List ℕ) (asked : Asked) (text : List ℕ) (j : ℕ) (names : List SecName) (k : ℕ) → HoldNear near
    (kind_asked asked) text j names → passes_at (passes asked text) names k ≡ true → is_one_of (j + k) near ≡ true
is-held near asked text j [] k h p = grind (arith, both, ltb-true)
is-held near asked text j (n ∷ names) zero h p = grind (arith, both, add-zero, passes-near)
is-held near asked text j (n ∷ names) (suc k) h p =
    let at : SecName = get_or names k (unreferred Named [] false) in
    let a : (nat_lt (suc k) (suc (length names)) ≡ true) × (passes asked text at ≡ true) =
    both (nat_lt (suc k) (suc (length names))) (passes asked text at) p in
    let below : suc k < suc (length names) = ltb-true (suc k) (suc (length names)) a.0 in
    let one : (j + 1) + k ≡ j + suc k = omega arith in
    subst (λ i. is_one_of i near ≡ true) one (is-held near asked text (j + 1) names k h.1
    (and-yes (nat_lt k (length names)) (passes asked text at) (lt-ltb k (length names) (omega arith)) a.1))

-- ## The least position

abbrev pub Sound : (SecName → Bool) → List SecName → ℕ → Option ℕ → Type 0
Sound test names from None = Unit {0}
Sound test names from (Some k) = (from ≤ k) × (passes_at test names k ≡ true)

abbrev pub AtMost : Option ℕ → ℕ → Type 0
AtMost None k = ⊥
AtMost (Some least) k = least ≤ k

abbrev lesser : (SecName → Bool) → List SecName → ℕ → Option ℕ → ℕ → Option ℕ
lesser test names from least k = chosen (is_lesser test names from least k) k least

sound-by : (b : Bool) (test : SecName → Bool) (names : List SecName) (from k : ℕ) (least : Option ℕ)
    → is_lesser test names from least k ≡ b → Sound test names from least → Sound test names from (chosen b k least)
sound-by b test names from k least h s = grind (arith, nat_le, both, leb-true)

pub sound : (test : SecName → Bool) (names : List SecName) (from : ℕ) (least : Option ℕ) (positions : List ℕ)
    → Sound test names from least → Sound test names from (least_of test names from least positions)
sound test names from least [] s = s
sound test names from least (k ∷ positions) s = sound test names from (lesser test names from least k) positions
    (sound-by (is_lesser test names from least k) test names from k least refl s)

keeps-by : (b : Bool) (k j : ℕ) (least : Option ℕ) → (b ≡ true → is_below j least ≡ true) → AtMost least k
    → AtMost (chosen b j least) k
keeps-by b k j least below h = grind (arith, ltb-true)

keeps : (test : SecName → Bool) (names : List SecName) (from k j : ℕ) (least : Option ℕ) → AtMost least k
    → AtMost (lesser test names from least j) k
keeps test names from k j least h = grind (arith, keeps-by, nat_le, both)

here-below : (b : Bool) (k : ℕ) (least : Option ℕ) → (b ≡ false → is_below k least ≡ false)
    → AtMost (chosen b k least) k
here-below b k least h = grind (arith, ltb-false)

and-no : (a b c : Bool) → a ≡ true → c ≡ true → (a && (b && c)) ≡ false → b ≡ false
and-no a b c h k e = grind (arith, and-yes)

here : (test : SecName → Bool) (names : List SecName) (from k : ℕ) (least : Option ℕ) → from ≤ k
    → passes_at test names k ≡ true → AtMost (lesser test names from least k) k
here test names from k least h p = grind (arith, here-below, and-no, nat_le, le-leb)

pub at-most : (test : SecName → Bool) (names : List SecName) (from : ℕ) (least : Option ℕ) (positions : List ℕ) (k : ℕ)
    → from ≤ k → passes_at test names k ≡ true → (is_one_of k positions ≡ true) ⊎ AtMost least k
    → AtMost (least_of test names from least positions) k
at-most test names from least [] k h p (inl e) = absurd (cc)
at-most test names from least [] k h p (inr e) = e
at-most test names from least (j ∷ positions) k h p (inr e) =
    at-most test names from (lesser test names from least j) positions k h p (inr (keeps test names from k j least e))
at-most test names from least (j ∷ positions) k h p (inl e) = elim (or-yes (j == k) (is_one_of k positions) e) [
  | inl now ↦
      let is : k ≡ j = sym (eqb-true j k now) in
      at-most test names from (lesser test names from least j) positions k h p
      (inr (subst (λ i. AtMost (lesser test names from least i) k) is (here test names from k least h p)))
  | inr later ↦ at-most test names from (lesser test names from least j) positions k h p (inl later)
]

-- ## The first name that passes

not-true : (b : Bool) → (b ≡ true → ⊥) → b ≡ false
not-true b h = grind arith

abbrev nobody : SecName
nobody = unreferred Named [] false

passes-behind : (test : SecName → Bool) (names : List SecName) (from k : ℕ) → k < length (drop from names)
    → test (get_or (drop from names) k nobody) ≡ true → passes_at test names (from + k) ≡ true
passes-behind test names from k h e = grind (arith, length-drop, and-yes, lt-ltb, get_or-drop)

at-end : (p n : ℕ) → p ≡ n → cond (nat_lt p n) (Some p) None ≡ None
at-end p n h = rw (le-ltb p n (omega arith)) refl

at-some : (p n i : ℕ) → p ≡ i → i < n → cond (nat_lt p n) (Some p) None ≡ Some i
at-some p n i h k = rw (lt-ltb p n (omega arith)) (ap Some h)

pub least-is : (test : SecName → Bool) (names : List SecName) (from : ℕ) (r : Option ℕ) → Sound test names from r
    → ((k : ℕ) → from ≤ k → passes_at test names k ≡ true → AtMost r k)
    → r ≡ option_map (λ more. from + more) (position test (drop from names))
least-is test names from None s h =
    let place : position_or_len test (drop from names) ≡ length (drop from names) = position_or_len_is test
    (drop from names) (length (drop from names)) nobody (omega arith)
    (λ k below. not-true (test (get_or (drop from names) k nobody))
    (λ e. h (from + k) (omega arith) (passes-behind test names from k below e))) (λ below. absurd (omega arith)) in
    ap (option_map (λ more. from + more)) (sym (at-end (position_or_len test (drop from names))
    (length (drop from names)) place))
least-is test names from (Some i) s h =
    let a : (nat_lt i (length names) ≡ true) × (test (get_or names i nobody) ≡ true) =
    both (nat_lt i (length names)) (test (get_or names i nobody)) s.1 in
    let low : from ≤ i = s.0 in
    let high : i < length names = ltb-true i (length names) a.0 in
    let long : length (drop from names) ≡ length names - from = length-drop from names in
    let back : from + (i - from) ≡ i = omega arith in
    let place : position_or_len test (drop from names) ≡ i - from = position_or_len_is test (drop from names)
    (i - from) nobody (omega arith) (λ k below. not-true (test (get_or (drop from names) k nobody)) (λ e.
    let most : i ≤ from + k = h (from + k) (omega arith) (passes-behind test names from k (omega arith) e) in
    omega arith))
    (λ below. ap test (get_or-drop from names (i - from) nobody ∙ ap (λ j. get_or names j nobody) back) ∙ a.1) in
    ap Some (sym back) ∙ ap (option_map (λ more. from + more))
    (sym (at-some (position_or_len test (drop from names)) (length (drop from names)) (i - from) place (omega arith)))

-- what is least among the positions near a text is the first of all names
pub least-first : (near : List ℕ) (asked : Asked) (text : List ℕ) (names : List SecName) (from : ℕ)
    → HoldNear near (kind_asked asked) text 0 names → least_of (passes asked text) names from None near
    ≡ option_map (λ more. from + more) (position (passes asked text) (drop from names))
least-first near asked text names from h = least-is (passes asked text) names from
    (least_of (passes asked text) names from None near) (sound (passes asked text) names from None near tt)
    (λ k low p. at-most (passes asked text) names from None near k low p
    (inl (subst (λ i. is_one_of i near ≡ true) (zero-add k) (is-held near asked text 0 names k h p))))

pub from-first : (o : Option ℕ) → option_map (λ more. 0 + more) o ≡ o
from-first o = grind (arith, zero-add)

-- a position more
least-more : (test : SecName → Bool) (names : List SecName) (from : ℕ) (least : Option ℕ) (near : List ℕ) (i : ℕ)
    → i < length near → least_of test names from least (take (i + 1) near)
    ≡ lesser test names from (least_of test names from least (take i near)) (get_or near i 0)
least-more test names from least [] i h = absurd (omega arith)
least-more test names from least (k ∷ near) zero h = refl
least-more test names from least (k ∷ near) (suc i) h =
    let one : suc i + 1 ≡ suc (i + 1) = omega arith in
    ap (λ n. least_of test names from least (take n (k ∷ near))) one
    ∙ least-more test names from (lesser test names from least k) near i (omega arith)

pub least-next : (test : SecName → Bool) (names : List SecName) (from : ℕ) (near : List ℕ) (i : ℕ) (less : Bool)
    (best next : Option ℕ) → i < length near → best ≡ least_of test names from None (take i near)
    → less ≡ is_lesser test names from best (get_or near i 0) → next ≡ chosen less (get_or near i 0) best
    → next ≡ least_of test names from None (take (i + 1) near)
least-next test names from near i less best next h is goes chooses = grind (arith, least-more)

sound-within : (test : SecName → Bool) (names : List SecName) (from : ℕ) (r : Option ℕ) → Sound test names from r
    → IfSome r (λ k. k < length names)
sound-within test names from r s = grind (arith, ltb-true, both)

pub least-within : (test : SecName → Bool) (names : List SecName) (from : ℕ) (near : List ℕ) (r : Option ℕ)
    → r ≡ least_of test names from None near → IfSome r (λ k. k < length names)
least-within test names from near r h = grind (arith, sound-within, sound)

-- ## Names in memory

pub marked-behind : (marks : Marks) (k : ℕ) (xs : List KeptName) (x : KeptName) → AreMarked marks k (map name_of xs)
    → IsMarked marks x.kind x.text.items (k + length xs) → AreMarked marks k (map name_of (xs ++ x ∷ []))
marked-behind marks k [] x h m = (subst (IsMarked marks x.kind x.text.items) (add-zero k) m, tt)
marked-behind marks k (y ∷ xs) x h m =
    let one : k + suc (length xs) ≡ (k + 1) + length xs = omega arith in
    (h.0, marked-behind marks (k + 1) xs x h.1 (subst (IsMarked marks x.kind x.text.items) one m))

pub marked-set : (marks : Marks) (k : ℕ) (xs : List KeptName) (i : ℕ) (new : KeptName) → AreMarked marks k
    (map name_of xs)
    → IsMarked marks new.kind new.text.items (k + i) → AreMarked marks k (map name_of (slice_set xs i new))
marked-set marks k [] i new h m = tt
marked-set marks k (x ∷ xs) zero new h m = (subst (IsMarked marks new.kind new.text.items) (add-zero k) m, h.1)
marked-set marks k (x ∷ xs) (suc i) new h m =
    let one : k + suc i ≡ (k + 1) + i = omega arith in
    (h.0, marked-set marks (k + 1) xs i new h.1 (subst (IsMarked marks new.kind new.text.items) one m))

pub marked-as : (marks : Marks) (kind other : SecKind) (text items : List ℕ) (k j : ℕ) → kind ≡ other → items ≡ text
    → k ≡ j → IsMarked marks kind text k → IsMarked marks other items (0 + j)
marked-as marks kind other text items k j e f g m = grind (arith, zero-add)

pub same-kind : (xs : List KeptName) (i : ℕ) (a b : KeptName) → i < length xs → (get_or xs i a).kind
    ≡ (get_or xs i b).kind
same-kind [] i a b h = absurd (omega arith)
same-kind (x ∷ xs) zero a b h = refl
same-kind (x ∷ xs) (suc i) a b h = same-kind xs i a b (omega arith)

named-at : (xs : List KeptName) (k : ℕ) (d : KeptName) (e : SecName) → k < length xs → get_or (map name_of xs) k e
    ≡ name_of (get_or xs k d)
named-at [] k d e h = absurd (omega arith)
named-at (x ∷ xs) zero d e h = refl
named-at (x ∷ xs) (suc k) d e h = named-at xs k d e (omega arith)

pub passes-there : (test : SecName → Bool) (xs : List KeptName) (names : List SecName) (k : ℕ) (x : KeptName)
    → map name_of xs ≡ names → k < length xs → x ≡ get_or xs k x → test (name_of x) ≡ passes_at test names k
passes-there test xs names k x view h is = grind (arith, lt-ltb, length-named, named-at)

pub passes-not : (test : SecName → Bool) (names : List SecName) (k : ℕ) → length names ≤ k
    → false ≡ passes_at test names k
passes-not test names k h = grind (arith, le-ltb)
