-- Which sections list a name, by the places where it occurs.
use Rattle.cw_mini.proofs.Terms.{◌||◌, ◌≡◌, ℕ, zero, suc, ◌+◌, ◌<◌, ◌≤◌, Bool, true, false, ◌&&◌, ◌==◌, not, List, []}
use Rattle.cw_mini.proofs.Terms.{◌∷◌, ◌++◌, All, refl, ap, arith, cond, drop, get_or, length, subst, sym, ◌∙◌, list_any}
use Rattle.cw_mini.proofs.Terms.{◌≢◌, append-nil, drop_all, drop_more, nat_tests, All-filter, All-head, All-tail}
use Rattle.cw_mini.proofs.Terms.{list_if, SectionRef, AreAscending, listed, defining, is_used_in, stands_in}

-- Rows list the underlined sections of a name, whatever else they list.
pub defining-listed : (underlined_only : Bool) (ms : List SectionRef)
    → defining (listed underlined_only ms) ≡ defining ms
defining-listed only [] = refl
defining-listed only (m ∷ ms) = grind (arith, defining-listed only ms)

-- ## A section uses a name where it has a place that isn't underlined

abbrev pub is_use : ℕ → SectionRef → Bool
is_use section m = m.section == section && not m.underlined

-- what a section lists, where these places of a name are still to come
abbrev pub with_later : ℕ → ℕ → List ℕ → List SectionRef → List ℕ
with_later section name names later = names ++ list_if (list_any (is_use section) later) (name ∷ [])

same : (a b : ℕ) → (a == b) ≡ true → a ≡ b
same a b e = grind (arith, nat_tests)

apart : (a b : ℕ) → b < a → (a == b) ≡ false
apart a b lt = grind (arith, nat_tests)

or-false : (a b : Bool) → a ≡ false → b ≡ false → (a || b) ≡ false
or-false a b x y = grind arith

-- a section that all of these are above doesn't stand among them
above : (section : ℕ) (ms : List SectionRef) → All (λ m. section < m.section) ms → stands_in section ms ≡ false
above section [] all = refl
above section (m ∷ ms) all = or-false (m.section == section) (stands_in section ms)
    (apart m.section section (All-head (λ (n : SectionRef). section < n.section) m ms all))
    (above section ms (All-tail (λ (n : SectionRef). section < n.section) m ms all))

unused : (section : ℕ) (ms : List SectionRef) → All (λ m. section < m.section) ms → list_any (is_use section) ms ≡ false
unused section [] all = refl
unused section (m ∷ ms) all = or-false (is_use section m) (list_any (is_use section) ms) (ap (λ (t : Bool). t && not
    m.underlined) (apart m.section section (All-head (λ (n : SectionRef). section < n.section) m ms all)))
    (unused section ms (All-tail (λ (n : SectionRef). section < n.section) m ms all))

-- of one place and those behind it: whether they have a section, and whether its underlined ones do
abbrev use_with : Bool → Bool → Bool → Bool → Bool
use_with here underlined behind defined = (here || behind) && not (cond underlined (here || defined) defined)

first-is : (section : ℕ) (m : SectionRef) (ms : List SectionRef) → is_used_in section (m ∷ ms) (defining (m ∷ ms))
    ≡ use_with (m.section == section) m.underlined (stands_in section ms) (stands_in section (defining ms))
first-is section m ms = grind arith

pub used-is : (section : ℕ) (ms : List SectionRef) → AreAscending ms
    → is_used_in section ms (defining ms) ≡ list_any (is_use section) ms
used-is section [] ascending = refl
used-is section (m ∷ ms) ascending = first-is section m ms ∙ by (m.section == section) refl (used-is section ms later)
  where
    later : AreAscending ms
    later = λ i j d lt within. ascending (suc i) (suc j) d (omega arith) (omega arith)

    behind : All (λ n. m.section < n.section) ms
    behind = λ k d within. ascending zero (suc k) d (omega arith) (omega arith)

    here : (m.section == section) ≡ true → All (λ n. section < n.section) ms
    here e = subst (λ (k : ℕ). All (λ (n : SectionRef). k < n.section) ms) (same m.section section e) behind

    alone : (u : Bool) → All (λ n. section < n.section) ms → use_with true u (stands_in section ms)
        (stands_in section (defining ms)) ≡ (not u || list_any (is_use section) ms)
    alone true all = sym (unused section ms all)
    alone false all =
        ap not (above section (defining ms) (All-filter (λ n. n.underlined) (λ n. section < n.section) ms all))

    elsewhere : (u : Bool) → is_used_in section ms (defining ms) ≡ list_any (is_use section) ms → use_with false u
        (stands_in section ms) (stands_in section (defining ms)) ≡ list_any (is_use section) ms
    elsewhere true rest = rest
    elsewhere false rest = rest

    by : (t : Bool) → (m.section == section) ≡ t → is_used_in section ms (defining ms) ≡ list_any
        (is_use section) ms → use_with t m.underlined (stands_in section ms)
        (stands_in section (defining ms)) ≡ ((t && not m.underlined) || list_any (is_use section) ms)
    by true e rest = alone m.underlined (here e)
    by false e rest = elsewhere m.underlined rest

-- ## What a place adds to those that its section lists

and-not : (t u : Bool) → u ≡ true → (t && not u) ≡ false
and-not t u e = grind arith

different : (a b : ℕ) → (a == b) ≡ false → b ≢ a
different a b e = grind (arith, nat_tests)

pub use-passed : (section name : ℕ) (names : List ℕ) (place : SectionRef) (later : List SectionRef)
    → place.underlined ≡ true → with_later section name names later ≡ with_later section name names (place ∷ later)
use-passed section name names place later e = grind (arith, and-not)

pub use-listed : (section name : ℕ) (names new : List ℕ) (place : SectionRef) (later : List SectionRef)
    → place.underlined ≡ false → All (λ n. place.section < n.section) later
    → (section ≡ place.section → new ≡ names ++ name ∷ []) → (section ≢ place.section → new ≡ names)
    → with_later section name new later ≡ with_later section name names (place ∷ later)
use-listed section name names new place later e behind here elsewhere = by (place.section == section) refl where
  by : (t : Bool) → (place.section == section) ≡ t → with_later section name new later ≡ names ++ list_if
      ((t && not place.underlined) || list_any (is_use section) later) (name ∷ [])
  by true is =
      let at : place.section ≡ section = same place.section section is in
      let none : list_any (is_use section) later ≡ false =
      unused section later (subst (λ (k : ℕ). All (λ (n : SectionRef). k < n.section) later) at behind) in
      (λ i. here (sym at) i ++ list_if (none i) (name ∷ []))
      ∙ append-nil (names ++ name ∷ [])
      ∙ ap (λ (u : Bool). names ++ list_if (not u || list_any (is_use section) later) (name ∷ [])) (sym e)
  by false is = ap (λ (l : List ℕ). l ++ list_if (list_any (is_use section) later) (name ∷ []))
      (elsewhere (different place.section section is))

-- The places behind one are above it.
pub above-later : (ms : List SectionRef) (i : ℕ) (d : SectionRef) → AreAscending ms → i < length ms
    → All (λ n. (get_or ms i d).section < n.section) (drop (suc i) ms)
above-later [] i d ascending within = absurd (omega arith)
above-later (m ∷ ms) zero d ascending within = λ k e lt. ascending zero (suc k) e (omega arith) (omega arith)
above-later (m ∷ ms) (suc i) d ascending within =
    above-later ms i d (λ j k e lt below. ascending (suc j) (suc k) e (omega arith) (omega arith)) (omega arith)

-- ## One place more

-- what a test of a use tells of the place
pub is-used : (t u : Bool) → t ≡ not u → t ≡ true → u ≡ false
is-used t u e is = grind arith

pub is-unused : (t u : Bool) → t ≡ not u → t ≡ false → u ≡ true
is-unused t u e is = grind arith

more : (i : ℕ) → suc i ≡ i + 1
more i = grind arith

pub step-passed : (section name i : ℕ) (names start : List ℕ) (ms : List SectionRef) (d : SectionRef) → i < length ms
    → (get_or ms i d).underlined ≡ true → with_later section name names (drop i ms) ≡ start
    → with_later section name names (drop (i + 1) ms) ≡ start
step-passed section name i names start ms d within e so = use-passed section name names (get_or ms i d)
    (drop (i + 1) ms) e ∙ ap (with_later section name names) (sym (drop_more ms i d within)) ∙ so

pub step-listed : (section name i : ℕ) (names new start : List ℕ) (ms : List SectionRef) (d : SectionRef)
    → AreAscending ms → i < length ms → (get_or ms i d).underlined ≡ false
    → (section ≡ (get_or ms i d).section → new ≡ names ++ name ∷ []) → (section ≢ (get_or ms i d).section → new ≡ names)
    → with_later section name names (drop i ms) ≡ start → with_later section name new (drop (i + 1) ms) ≡ start
step-listed section name i names new start ms d ascending within e here elsewhere so = use-listed section name names new
    (get_or ms i d) (drop (i + 1) ms) e (subst (λ (n : ℕ). All (λ (m : SectionRef). (get_or ms i d).section < m.section)
    (drop n ms)) (more i) (above-later ms i d ascending within)) here elsewhere
    ∙ ap (with_later section name names) (sym (drop_more ms i d within)) ∙ so

-- When no place is to come, the section lists the name if one was a use in it.
pub listed-whole : (section name i : ℕ) (names start : List ℕ) (ms : List SectionRef) (own : Bool) → AreAscending ms
    → length ms ≤ i → own ≡ true → with_later section name names (drop i ms) ≡ with_later section name start ms
    → names ≡ start ++ list_if (own && is_used_in section ms (defining ms)) (name ∷ [])
listed-whole section name i names start ms own ascending past is so = sym (append-nil names)
    ∙ ap (with_later section name names) (sym (drop_all i ms past)) ∙ so
    ∙ ap (λ (t : Bool). start ++ list_if t (name ∷ [])) (sym (used-is section ms ascending))
    ∙ ap (λ (t : Bool). start ++ list_if (t && is_used_in section ms (defining ms)) (name ∷ [])) (sym is)
