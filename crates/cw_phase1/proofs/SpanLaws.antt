-- The tokens of a web stand one behind another, and so do the parts of its sections.
use Rattle.cw_phase1.proofs.Terms.{◌≡◌, ℕ, ◌<◌, ◌≤◌, ◌||◌, ◌==◌, Bool, true, false, not, List, [], ◌∷◌, ◌++◌, Option}
use Rattle.cw_phase1.proofs.Terms.{Some, None, All, IfSome, suc, zero, refl, ap, subst, ◌∙◌, append_assoc, arith}
use Rattle.cw_phase1.proofs.Terms.{if◌then◌else◌, eq-eqb, All-nil, option_map, one-left, MergedLine, Answer, Token}
use Rattle.cw_phase1.proofs.Terms.{Begin, Finish, Note, Covers, SecId, SecName, id, NameUse, name_at, Part, Standing}
use Rattle.cw_phase1.proofs.Terms.{Section, AreBefore, Placement, placed_from, is_section_code, is_tex, is_program}
use Rattle.cw_phase1.proofs.Terms.{ends_section, ends_definitions, ends_tex, first_start, c_part_name, section_at}
use Rattle.cw_phase1.proofs.Terms.{sections_of, LiesIn, IsNamedBy, use_by, use_of, uses_of}
use Rattle.cw_phase1.proofs.{RoleLaws.AreFit, Underway.before-use, Underway.before-more}

-- The tokens stand one behind another, from one place up to another.
abbrev pub Follow : ℕ → ℕ → List Placement → Type 0
Follow from size [] = from ≤ size
Follow from size (p ∷ ps) = (from ≤ p.token.span.start) × (p.token.span.start < p.token.span.«end»)
    × Follow p.token.span.«end» size ps

follow-more : (m n size : ℕ) (ps : List Placement) → m ≤ n → Follow n size ps → Follow m size ps
follow-more m n size [] h f = omega arith
follow-more m n size (p ∷ ps) h f = (omega (arith, f.0), f.1, f.2)

pub follows : (text : List ℕ) (from size : ℕ) (s : Standing) (kept : List SecName) (answers : List Answer)
    → Covers text from size answers → Follow from size (placed_from s kept answers)
follows text from size s kept [] c = c.0
follows text from size s kept (Token t ∷ answers) c = (c.0.order, c.1, follows text t.span.«end» size _ _ answers c.2)
follows text from size s kept (Begin t ∷ answers) c =
    follow-more from _ size _ (omega (arith, c.0.order, c.0.span)) (follows text t.span.«end» size _ kept answers c.1)
follows text from size s kept (Finish t ∷ answers) c =
    grind (arith, follows text t.span.«end» size s kept answers c.1, follow-more)
follows text from size s kept (Note kind place ∷ answers) c = follows text from size s kept answers c

follow-end : (from size : ℕ) (ps : List Placement) → Follow from size ps → from ≤ size
follow-end from size [] f = f
follow-end from size (p ∷ ps) f = omega (arith, f.0, f.1, follow-end p.token.span.«end» size ps f.2)

-- ## The first token that passes a test

first-from : (test : Placement → Bool) (from size : ℕ) (ps : List Placement) → Follow from size ps
    → from ≤ first_start test size ps
first-from test from size [] f = f
first-from test from size (p ∷ ps) f = grind (arith, first-from test p.token.span.«end» size ps f.2)

first-to : (test : Placement → Bool) (from size : ℕ) (ps : List Placement) → Follow from size ps
    → first_start test size ps ≤ size
first-to test from size [] f = omega arith
first-to test from size (p ∷ ps) f = grind (arith, first-to test p.token.span.«end» size ps f.2, follow-end)

first-earlier : (test other : Placement → Bool) (from size : ℕ) (ps : List Placement) → ((p : Placement) → test p
    ≡ true → other
    p ≡ true) → Follow from size ps → first_start other size ps ≤ first_start test size ps
first-earlier test other from size [] h f = omega arith
first-earlier test other from size (p ∷ ps) h f =
    grind (arith, first-earlier test other p.token.span.«end» size ps h f.2, first-from)

code-ends : (p : Placement) → ends_section p ≡ true → ends_definitions p ≡ true
code-ends p h = one-left (is_section_code p.role) (is_program p.part) h

tex-by : (code : Bool) (part : Part) → (code || is_program part) ≡ true → (code || not (is_tex part)) ≡ true
tex-by code part h = grind arith

definitions-end-tex : (p : Placement) → ends_definitions p ≡ true → ends_tex p ≡ true
definitions-end-tex p h = tex-by (is_section_code p.role) p.part h

-- ## Sections

all-by : (P : Section → Type 0) (t : Bool) (s : Section) (rest : List Section) → P s → All P rest
    → All P (if t then s ∷ rest else rest)
all-by P t s rest h a = grind arith

pub all-lie : (lines : List MergedLine) (from size : ℕ) (ps : List Placement) → Follow from size ps
    → All (LiesIn size) (sections_of lines size ps)
all-lie lines from size [] f = All-nil (LiesIn size)
all-lie lines from size (p ∷ ps) f = all-by (LiesIn size) _ (section_at lines size p.token ps)
    (sections_of lines size ps) (grind (arith, first-from, first-earlier, definitions-end-tex, code-ends, first-to))
    (all-lie lines p.token.span.«end» size ps f.2)

pub limbo-lies : (from size : ℕ) (ps : List Placement) → Follow from size ps → first_start ends_section size ps ≤ size
limbo-lies from size ps f = first-to ends_section from size ps f

-- ## Their names

not-same : (a b : ℕ) → a < b → (a == b) ≡ false
not-same a b h = grind arith

not-here : (name : Option SecId) (here place : ℕ) (uses : List NameUse) → (here == place) ≡ false
    → name_at place (use_by name here ++ uses) ≡ name_at place uses
not-here name here place uses h = grind arith

here : (name : Option SecId) (place : ℕ) (uses : List NameUse) → name_at place uses ≡ None
    → option_map id (name_at place (use_by name place ++ uses)) ≡ name
here name place uses h = grind (arith, eq-eqb)

-- no name stands before the first token
none-before : (place from size : ℕ) (ps : List Placement) → Follow from size ps → place < from
    → name_at place (uses_of ps)
    ≡ None
none-before place from size [] f h = refl
none-before place from size (p ∷ ps) f h = (grind arith)
    ∙ none-before place p.token.span.«end» size ps f.2 (omega (arith, f.0, f.1))

name-first : (from size : ℕ) (ps : List Placement) → Follow from size ps → AreFit ps
    → option_map id (name_at (first_start ends_definitions size ps) (uses_of ps)) ≡ c_part_name ps
name-first from size [] f fit = refl
name-first from size (p ∷ ps) f fit =
    grind (arith, name-first p.token.span.«end» size ps f.2 fit.1, here, not-here, none-before, not-same, first-from)

-- Names before a place are none at it.
skip-before : (from place : ℕ) (uses later : List NameUse) → from ≤ place → AreBefore from uses
    → name_at place (uses ++ later) ≡ name_at place later
skip-before from place [] later h b = refl
skip-before from place (u ∷ uses) later h b =
    ap (λ (t : Bool). if t then Some u.name else name_at place (uses ++ later)) (not-same u.place place (let first =
    b zero u (omega arith) in omega arith)) ∙ skip-before from place uses later h (λ k d l. b (suc k) d (omega arith))

pub all-named : (lines : List MergedLine) (uses : List NameUse) (from size : ℕ) (ps : List Placement)
    → AreBefore from uses
    → Follow from size ps → AreFit ps → All (IsNamedBy (uses ++ uses_of ps)) (sections_of lines size ps)
all-named lines uses from size [] b f fit = All-nil (IsNamedBy (uses ++ []))
all-named lines uses from size (p ∷ ps) b f fit = all-by (IsNamedBy (uses ++ (use_of p ++ uses_of ps)))
    (is_section_code p.role) (section_at lines size p.token ps) (sections_of lines size ps) (grind (
      arith,
      first-from,
      skip-before,
      not-here,
      not-same,
      name-first,
    )) (subst (λ us. All (IsNamedBy us) (sections_of lines size ps))
    (append_assoc uses (use_of p) (uses_of ps)) (all-named lines (uses ++ use_of p) p.token.span.«end» size ps
    (before-use p.name p.token.span.start p.token.span.«end» uses f.1 (before-more from p.token.span.«end» uses (omega (
      arith,
      f.0,
      f.1,
    )) b)) f.2 fit.1))

-- A name that stands at a place is kept.
at-by : (t : Bool) (name n : ℕ) (rest : Option ℕ) → name < n → IfSome (option_map id rest) (λ i. i.index < n)
    → IfSome (option_map id (if t then Some name else rest)) (λ i. i.index < n)
at-by t name n rest h k = grind arith

at-below : (place n : ℕ) (uses : List NameUse) → All (λ (u : NameUse). u.name < n) uses
    → IfSome (option_map id (name_at place uses)) (λ i. i.index < n)
at-below place n [] a = tt
at-below place n (u ∷ uses) a = at-by _
    u.name n (name_at place uses) (a zero u (omega arith)) (at-below place n uses (λ k d l. a (suc k) d (omega arith)))

pub named-below : (n : ℕ) (uses : List NameUse) (sections : List Section) → All (λ (u : NameUse). u.name < n) uses
    → All (IsNamedBy uses) sections → All (λ (s : Section). IfSome s.name (λ i. i.index < n)) sections
named-below n uses sections a b = grind (arith, at-below)
