-- Which tokens have names, and which section each stands in.
use Rattle.cw_phase1.proofs.Terms.{◌≡◌, ℕ, zero, suc, ◌+◌, ◌<◌, ◌≤◌, Bool, true, false, List, [], ◌∷◌, ◌++◌, Option}
use Rattle.cw_phase1.proofs.Terms.{Some, None, All, map, length, refl, sym, ◌∙◌, add-zero, zero-add, arith, nat_lt}
use Rattle.cw_phase1.proofs.Terms.{true≢false, filter, eqb-true, ltb-false, ltb-true, All-nil, All-cons, MergedLine}
use Rattle.cw_phase1.proofs.Terms.{Code, Expectation, TokKind, Seen, Answer, Token, Begin, Finish, Note, SecId, SecName}
use Rattle.cw_phase1.proofs.Terms.{AscendFrom, Reference, once, is_of, referred, NameUse, Role, Standing, Placement}
use Rattle.cw_phase1.proofs.Terms.{Step, name_step, code_step, free_step, token_step, word_role, head_role}
use Rattle.cw_phase1.proofs.Terms.{behind_begin, placed_by, placed_from, is_section_code, sections_of, Ascend}
use Rattle.cw_phase1.proofs.Terms.{RefersUpTo, use_by, uses_of, reference_by, references_of}
use Rattle.cw_secnames.specs.{declared.kinds.RefKind.RefKind, Marks.is_one_of}
use Rattle.cw_secnames.specs.declared.kinds.RefKind.TheVariants.{Defined, Used, Cited}
use Rattle.cw_secnames.specs.laws.OnceLaws.{head-in, in-once, not-in, once-ascends, tail-in}
use Rattle.cw_phase1.proofs.Passing.{name-free, enters-nothing}
use Rattle.cw_phase1.specs.declared.roles.Role.TheVariants as roles

-- ## Names

abbrev pub is_name_role : Role → Bool
is_name_role (roles.Name how) = true
is_name_role role = false

-- Only section names have a name.
pub record IsFit (p : Placement) : Type 0 where
  pub code : is_section_code p.role ≡ true → p.name ≡ None
  pub plain : is_name_role p.role ≡ false → p.name ≡ None

abbrev pub AreFit : List Placement → Type 0
AreFit [] = Unit {0}
AreFit (p ∷ ps) = IsFit p × AreFit ps

name-fits : (headed : Bool) (t : Seen) (name : Option SecId) (s : Standing)
    → IsFit (placed_by t name (name_step headed s))
name-fits headed t name s = grind arith

pub fits : (s : Standing) (kept : List SecName) (answers : List Answer) → AreFit (placed_from s kept answers)
fits s kept [] = tt
fits s kept (Token t ∷ answers) =
    (grind (arith, name-free, name-fits, enters-nothing), fits (token_step _ _ s _).next _ answers)
fits s kept (Begin t ∷ answers) = fits (behind_begin s) kept answers
fits s kept (Finish t ∷ answers) = fits s kept answers
fits s kept (Note kind place ∷ answers) = fits s kept answers

-- All names in the web are kept, since all references are to kept names.
abbrev IsUse : ℕ → NameUse → Type 0
IsUse n u = u.name < n

abbrev IsReference : ℕ → Reference → Type 0
IsReference n r = r.name < n

use-below : (role : Role) (name : Option SecId) (place section n : ℕ) (uses : List NameUse)
    (references : List Reference)
    → (is_name_role role ≡ false → name ≡ None) → All (IsReference n) (reference_by role name section ++ references)
    → (All (IsReference n) references → All (IsUse n) uses) → All (IsUse n) (use_by name place ++ uses)
use-below (roles.Name how) None place section n uses references h a k = k a
use-below (roles.Name how) (Some id) place section n uses references h a k = All-cons (IsUse n) _ uses (a zero
    (record { name = id.index; how = how; section = section }) (omega arith)) (k (λ j d l. a (suc j) d (omega arith)))
use-below role name place section n uses references h a k = grind arith

pub uses-below : (n : ℕ) (ps : List Placement) → AreFit ps → All (λ (r : Reference). r.name < n) (references_of ps)
    → All (λ (u : NameUse). u.name < n) (uses_of ps)
uses-below n [] f a = All-nil (IsUse n)
uses-below n (p ∷ ps) f a = use-below _ _ _ _ n _ _ f.0.plain a (uses-below n ps f.1)

-- ## Sections

abbrev pub count_by : Bool → ℕ
count_by true = 1
count_by false = 0

-- The section of each token is that of the one before, or the next one where it is a section code.
abbrev pub Numbered : ℕ → List Placement → Type 0
Numbered m [] = Unit {0}
Numbered m (p ∷ ps) = (p.section ≡ m + count_by (is_section_code p.role)) × Numbered p.section ps

abbrev IsNumbered : ℕ → Step → Type 0
IsNumbered m step = step.next.section ≡ m + count_by (is_section_code step.role)

no-code-word : (wanted : Expectation) → is_section_code (word_role wanted) ≡ false
no-code-word wanted = grind arith

no-code-head : (wanted : Expectation) (kind : TokKind) → is_section_code (head_role wanted kind) ≡ false
no-code-head wanted kind = grind (arith, no-code-word)

name-number : (headed : Bool) (s : Standing) → IsNumbered s.section (name_step headed s)
name-number headed s = grind (arith, add-zero)

code-number : (code : Code) (headed : Bool) (s : Standing) → IsNumbered s.section (code_step code headed s)
code-number code headed s = grind (arith, add-zero, name-number)

free-number : (kind : TokKind) (headed : Bool) (s : Standing) → IsNumbered s.section (free_step kind headed s)
free-number kind headed s = grind (arith, add-zero, code-number)

pub numbered : (s : Standing) (kept : List SecName) (answers : List Answer)
    → Numbered s.section (placed_from s kept answers)
numbered s kept [] = tt
numbered s kept (Token t ∷ answers) =
    ((grind (arith, free-number, no-code-head, add-zero)), numbered (token_step _ _ s _).next _ answers)
numbered s kept (Begin t ∷ answers) = numbered (behind_begin s) kept answers
numbered s kept (Finish t ∷ answers) = numbered s kept answers
numbered s kept (Note kind place ∷ answers) = numbered s kept answers

-- how many section codes there are
abbrev pub codes : List Placement → ℕ
codes [] = 0
codes (p ∷ ps) = count_by (is_section_code p.role) + codes ps

pub section-count : (lines : List MergedLine) (size : ℕ) (ps : List Placement) → length (sections_of lines size ps)
    ≡ codes ps
section-count lines size [] = refl
section-count lines size (p ∷ ps) = grind (arith, section-count lines size ps, zero-add)

-- ## References

-- The numbers rise, perhaps with repeats, from one number up to another.
abbrev pub Rise : ℕ → ℕ → List ℕ → Type 0
Rise low high [] = Unit {0}
Rise low high (n ∷ ns) = (low ≤ n) × (n ≤ high) × Rise n high ns

pub rise-more : (m n high : ℕ) (ns : List ℕ) → m ≤ n → Rise n high ns → Rise m high ns
rise-more m n high [] h r = tt
rise-more m n high (k ∷ ns) h r = (omega (arith, r.0), r.1, r.2)

abbrev pub sections_in : List Reference → List ℕ
sections_in references = map (λ (r : Reference). r.section) references

pub rise-reference : (role : Role) (name : Option SecId) (section low high : ℕ) (references : List Reference)
    → low ≤ section → section ≤ high → Rise section high (sections_in references)
    → Rise low high (sections_in (reference_by role name section ++ references))
rise-reference role name section low high references l h r = grind (arith, rise-more)

pub rise : (m high : ℕ) (ps : List Placement) → Numbered m ps → m + codes ps ≤ high
    → Rise m high (sections_in (references_of ps))
rise m high [] n h = tt
rise m high (p ∷ ps) n h = grind (arith, rise p.section high ps n.1 (omega (arith, n.0, h)), rise-reference)

rise-filter : (test : Reference → Bool) (low high : ℕ) (references : List Reference)
    → Rise low high (sections_in references) → Rise low high (sections_in (filter test references))
rise-filter test low high [] r = tt
rise-filter test low high (reference ∷ references) r =
    grind (arith, rise-filter test reference.section high references r.2, rise-more)

-- each of them is between the two
risen : (low high : ℕ) (ns : List ℕ) → Rise low high ns → (k : ℕ) → is_one_of k ns ≡ true → (low ≤ k) × (k ≤ high)
risen low high [] r k e = absurd (true≢false (sym e))
risen low high (n ∷ ns) r k e = grind (arith, risen n high ns r.2 k, eqb-true)

-- what ascends between two numbers
between : (low high least : ℕ) (ns : List ℕ) → AscendFrom least ns
    → ((k : ℕ) → is_one_of k ns ≡ true → (low ≤ k) × (k ≤ high)) → Ascend low high ns
between low high least [] up there = tt
between low high least (n ∷ ns) up there =
    let here : (low ≤ n) × (n ≤ high) = there n (head-in n ns) in
    (here.0, here.1, between (n + 1) high (n + 1) ns up.1 (λ k e. (above k _ refl e, (there k (tail-in k n ns e)).1)))
  where
    above : (k : ℕ) (t : Bool) → nat_lt k (n + 1) ≡ t → is_one_of k ns ≡ true → n + 1 ≤ k
    above k true less e = absurd (true≢false (sym e ∙ not-in k _ ns (ltb-true k (n + 1) less) up.1))
    above k false less e = ltb-false k (n + 1) less

once-between : (low high : ℕ) (ns : List ℕ) → Rise low high ns → Ascend low high (once ns)
once-between low high ns r = between low high 0 (once ns) (once-ascends ns) (grind (arith, risen, in-once))

ascend : (name : ℕ) (how : RefKind) (high : ℕ) (references : List Reference) → Rise 1 high (sections_in references)
    → Ascend 1 high (once (sections_in (filter (is_of name how) references)))
ascend name how high references r = grind (arith, once-between, rise-filter)

refers : (high : ℕ) (references : List Reference) (k : ℕ) (names : List SecName) → Rise 1 high (sections_in references)
    → All (RefersUpTo high) (referred references k names)
refers high references k [] r = All-nil (RefersUpTo high)
refers high references k (n ∷ names) r = All-cons (RefersUpTo high) _ (referred references (k + 1) names) (record {
  defined = ascend k Defined high references r;
  used = ascend k Used high references r;
  cited = ascend k Cited high references r;
}) (refers high references (k + 1) names r)

pub all-refer : (lines : List MergedLine) (size : ℕ) (names : List SecName) (ps : List Placement)
    → Rise 1 (length (sections_of lines size ps)) (sections_in (references_of ps))
    → All (RefersUpTo (length (sections_of lines size ps))) (referred (references_of ps) 0 names)
all-refer lines size names ps r = refers (length (sections_of lines size ps)) (references_of ps) 0 names r
