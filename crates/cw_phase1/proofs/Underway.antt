-- What holds while the answers come.
use Rattle.cw_phase1.proofs.Terms.{◌≡◌, ℕ, ◌+◌, ◌<◌, ◌≤◌, Bool, true, false, List, [], ◌∷◌, ◌++◌, Option, Some, None}
use Rattle.cw_phase1.proofs.Terms.{All, IfSome, length, ap, sym, subst, ◌∙◌, arith, length-append, ◌-◌, drop}
use Rattle.cw_phase1.proofs.Terms.{slice_range, length-take, All-append, All-nil, All-cons, common_steps, MergedLine}
use Rattle.cw_phase1.proofs.Terms.{text_of, Code, Expectation, TokKind, Seen, Answer, Token, Begin, Finish, Note}
use Rattle.cw_phase1.proofs.Terms.{is_head_sign, head_behind, EntryKind, NameId, SecId, Reference, NameUse, Role}
use Rattle.cw_phase1.proofs.Terms.{Standing, Open, Section, Placement, Step, name_step, token_step, token_step_by}
use Rattle.cw_phase1.proofs.Terms.{code_step, section_step, word_role, placed_by, is_section_code, use_by, reference_by}
use Rattle.cw_phase1.proofs.Terms.{closing_by, open_with, KnownNames, known_behind, with_format, IsKnown, told_step}
use Rattle.cw_phase1.proofs.Terms.{told_all, TokenLists, IsScanned, open_count, section_total, NoteKind, Covers}
use Rattle.cw_phase1.proofs.Terms.{tokens_of, Waiting, HeldState, waiting_of, settled_placed, settled_standing, settled}
use Rattle.cw_phase1.proofs.Terms.{remark_put, token_held_by, ended_held, held_step, IsToken, AreBefore, WaitsBehind}
use Rattle.cw_phase1.proofs.Terms.{CanSettle, WaitingIsKept, held_start}
use Rattle.cw_phase1.specs.declared.pass_state.Waiting.{Waiting as WaitingToken}
use Rattle.cw_phase1.proofs.{NameLaws.category-length, WordLaws.entered-below, WordLaws.entry-grows}
use Rattle.cw_phase1.proofs.Passing.{lists_at_end, names_at_end, notes_at_end, told-passes, kept-passes, notes-pass}
use Rattle.cw_names.specs.Names as names
use Rattle.cw_phase1.specs.declared.roles.Role.TheVariants as roles
use Rattle.cw_rules.specs.declared.tokens.Mode.TheVariants as modes

-- ## The first name of a format definition

known-more : (o : Option NameId) (m n : ℕ) → m ≤ n → IfSome o (λ id. id.index < m) → IfSome o (λ id. id.index < n)
known-more o m n h k = grind arith

format-length : (o : Option NameId) (second : NameId) (entries : List names.Entry)
    → length (with_format o second entries) ≡ length entries
format-length o second entries = grind (arith, category-length)

word-known : (other : EntryKind) (text : List ℕ) (k : KnownNames) → IfSome k.first (λ id. id.index < length k.names)
    → IfSome k.first (λ id. id.index < length (names.with_entry other text k.names))
word-known other text k h = known-more k.first _ _ (entry-grows other text k.names) h

role-known : (role : Role) (text : List ℕ) (k : KnownNames) → IfSome k.first (λ id. id.index < length k.names)
    → IfSome (known_behind role text k).first (λ id. id.index < length (known_behind role text k).names)
role-known role text k h = grind (arith, word-known, entered-below, format-length)

-- ## Names in the web

pub before-use : (name : Option SecId) (place n : ℕ) (uses : List NameUse) → place < n → AreBefore n uses
    → AreBefore n (uses ++ use_by name place)
before-use None place n uses h b = All-append (λ (u : NameUse). u.place < n) uses [] b (grind arith)
before-use (Some id) place n uses h b = All-append (λ (u : NameUse). u.place < n) uses _ b (grind arith)

pub before-more : (m n : ℕ) (uses : List NameUse) → m ≤ n → AreBefore m uses → AreBefore n uses
before-more m n uses h b = grind arith

abbrev AreOf : ℕ → List Reference → Type 0
AreOf n references = All (λ (r : Reference). r.name < n) references

of-none : (n : ℕ) (references : List Reference) → AreOf n references → AreOf n (references ++ [])
of-none n references a = All-append (λ (r : Reference). r.name < n) _ [] a (All-nil (λ (r : Reference). r.name < n))

of-nothing : (role : Role) (n section : ℕ) (references : List Reference) → AreOf n references
    → AreOf n (references ++ reference_by role None section)
of-nothing role n section references a = grind (arith, of-none)

of-some : (role : Role) (id : SecId) (n section : ℕ) (references : List Reference) → id.index < n → AreOf n references
    → AreOf n (references ++ reference_by role (Some id) section)
of-some (roles.Name how) id n section references h a = All-append (λ (r : Reference). r.name < n)
    _ _ a (All-cons (λ (r : Reference). r.name < n) _ [] h (All-nil (λ (r : Reference). r.name < n)))
of-some role id n section references h a = of-none n references a

-- ## Sections

closing-length : (o : Option Open) (lines : List MergedLine) (end : ℕ) (closed : List Section)
    → length (closing_by o lines end closed) ≡ open_count o + length closed
closing-length o lines end closed = grind (arith, length-append)

with-count : (o : Option Open) (p : Placement) → open_count (open_with o p) ≡ open_count o
with-count o p = grind arith

-- a section code begins the next section, and any other token stays in its section
record Counts (s : Step) (m : ℕ) : Type 0 where
  more : is_section_code s.role ≡ true → m + 1 ≤ s.next.section
  same : m ≤ s.next.section
  near : s.next.section ≤ m + 1

counts-stay : (s : Step) (m : ℕ) → s.next.section ≡ m → (is_section_code s.role ≡ true → ⊥) → Counts s m
counts-stay s m e n = record { more = λ h. absurd (n h); same = omega arith; near = omega arith }

not-code-word : (wanted : Expectation) → is_section_code (word_role wanted) ≡ true → ⊥
not-code-word wanted h = grind arith

counts-begin : (s : Standing) → Counts (section_step s) s.section
counts-begin s = record { more = λ h. omega arith; same = omega arith; near = omega arith }

plain-no-code : false ≡ true → ⊥
plain-no-code h = cc

code-counts : (code : Code) (s : Standing) → Counts (code_step code false s) s.section
code-counts code s = grind (arith, counts-begin, counts-stay, plain-no-code)

step-counts : (o : Option Expectation) (kind : TokKind) (s : Standing) → Counts (token_step_by o kind false s) s.section
step-counts o kind s = grind (arith, plain-no-code, code-counts, counts-stay, not-code-word)

name-counts : (headed : Bool) (s : Standing) → Counts (name_step headed s) s.section
name-counts headed s = grind (arith, counts-stay, plain-no-code)

-- ## What is held

-- Where no name waits: all that was told stands before a place.
record IsQuiet (from count : ℕ) (s : Standing) (t : TokenLists) : Type 0 where
  section : s.section ≤ from
  known : IsKnown t.words
  before : AreBefore from t.named.uses
  ids : AreOf count t.named.references
  total : section_total t.sections ≤ s.section

told-quiet : (lines : List MergedLine) (step : Step) (token : Seen) (name : Option SecId) (from count m : ℕ)
    (t : TokenLists)
    → Counts step m → step.next.section ≤ from → IsKnown t.words → token.span.start < from → AreBefore from t.named.uses
    → IfSome name (λ id. id.index < count) → AreOf count t.named.references → section_total t.sections ≤ m
    → IsQuiet from count step.next (told_step lines (placed_by token name step) t)
told-quiet lines step token name from count m t counts within known start before id ids total = record {
  section = within;
  known = (grind (arith, role-known));
  before = before-use name token.span.start from t.named.uses start before;
  ids = (grind (arith, of-nothing, of-some));
  total = (grind (arith, closing-length, with-count));
}

abbrev WaitsHere : Option Waiting → ℕ → List NameUse → Type 0
WaitsHere None from uses = AreBefore from uses
WaitsHere (Some w) from uses = (w.token.span.start < from) × WaitsBehind (Some w) uses

abbrev WaitingKept : Option Waiting → ℕ → Type 0
WaitingKept None count = Unit {0}
WaitingKept (Some w) count = IfSome w.name (λ id. id.index < count)

pub record IsReady (from : ℕ) (h : HeldState) : Type 0 where
  section : h.pass.standing.section ≤ from
  known : IsKnown h.told.words
  waits : WaitsHere h.pass.waiting from h.told.named.uses
  ids : AreOf (length h.kept) h.told.named.references
  total : section_total h.told.sections ≤ h.pass.standing.section
  id : WaitingKept h.pass.waiting (length h.kept)
  few : length h.kept ≤ from

name-section : (headed : Bool) (s : Standing) → (name_step headed s).next.section ≡ s.section
name-section headed s = grind arith

ready-settled : (lines : List MergedLine) (headed : Bool) (from : ℕ) (h : HeldState) → IsReady from h
    → IsQuiet from (length h.kept) (settled_standing headed h.pass.waiting h.pass.standing)
    (told_all lines (settled_placed headed h.pass.waiting h.pass.standing) h.told)
ready-settled lines headed from h r = grind (arith, common_steps, name-counts, name-section, told-quiet, before-more)

token-ready : (b : Bool) (lines : List MergedLine) (t : Seen) (from : ℕ) (h : HeldState) → IsToken t
    → from ≤ t.span.start → IsQuiet from (length h.kept) h.pass.standing h.told
    → WaitingKept (token_held_by b lines t h).pass.waiting (length (token_held_by b lines t h).kept) → length h.kept ≤
    length (token_held_by b lines t h).kept → length (token_held_by b lines t h).kept ≤ length h.kept + 1
    → length h.kept ≤ from → IsReady t.span.end (token_held_by b lines t h)
token-ready true lines t from h token le q id grows one few = grind (arith, before-more)
token-ready false lines t from h token le q id grows one few =
    let counts = step-counts (head_behind h.pass.standing.wanted t.kind t.span) t.kind h.pass.standing in
    let end : from < t.span.end = omega (arith, token.some) in
    let p = told-quiet lines (token_step t.kind false h.pass.standing t.span)
    t None t.span.end (length h.kept) h.pass.standing.section h.told counts (omega (arith, counts.near, q.section))
    q.known token.some (before-more from t.span.end h.told.named.uses (omega arith) q.before) tt q.ids q.total in
    grind arith

pub ready-settles : (from : ℕ) (h : HeldState) → IsReady from h → CanSettle h
ready-settles from h r = record { known = r.known; waits = (grind arith) }

-- ## While the answers come

pub covers-end : (text : List ℕ) (from end : ℕ) (answers : List Answer) → Covers text from end answers → from ≤ end
covers-end text from end [] c = c.0
covers-end text from end (Token t ∷ answers) c = grind (arith, covers-end text t.span.end end answers c.2)
covers-end text from end (Begin t ∷ answers) c = grind (arith, covers-end text t.span.end end answers c.1)
covers-end text from end (Finish t ∷ answers) c = grind (arith, covers-end text t.span.end end answers c.1)
covers-end text from end (Note kind place ∷ answers) c = covers-end text from end answers c

pub record Underway (lines : List MergedLine) (text : List ℕ) (all : List Answer) (h : HeldState)
    (rest : List Answer) : Type 0 where
  pub from : ℕ
  pub told : lists_at_end lines h rest ≡ lists_at_end lines held_start all
  pub kept : names_at_end h rest ≡ names_at_end held_start all
  pub notes : notes_at_end lines h rest ≡ notes_at_end lines held_start all
  pub covers : Covers text from (length text) rest
  pub limit : length text ≤ 16777216
  pub ready : IsReady from h

pub start : (lines : List MergedLine) (text : List ℕ) (all : List Answer) (h : HeldState) → h ≡ held_start
    → Covers text 0 (length text) all → length text ≤ 16777216 → Underway lines text all h all
start lines text all h e c l = grind (arith, lists_at_end, names_at_end, notes_at_end)

pub text-length : (text : List ℕ) (a b : ℕ) → length (slice_range text a b) ≤ b - a
text-length text a b = omega (arith, length-take (b - a) (drop a text))

pub is-token : (lines : List MergedLine) (text : List ℕ) (all : List Answer) (h : HeldState) (t : Seen)
    (rest : List Answer) → Underway lines text all h (Token t ∷ rest) → IsToken t
is-token lines text all h t rest u = grind (arith, covers-end, text-length)

pub section-fits : (lines : List MergedLine) (text : List ℕ) (all : List Answer) (h : HeldState) (t : Seen)
    (rest : List Answer) → Underway lines text all h (Token t ∷ rest) → h.pass.standing.section < 4294967295
section-fits lines text all h t rest u = grind (arith, covers-end)

-- what the answers make does not change when one of them is passed
step-on : (lines : List MergedLine) (text : List ℕ) (all : List Answer) (h new : HeldState) (a : Answer)
    (rest : List Answer) (from : ℕ) → Underway lines text all h (a ∷ rest) → new ≡ held_step lines a h
    → Covers text from (length text) rest → IsReady from (held_step lines a h) → Underway lines text all new rest
step-on lines text all h new a rest from u e covers ready = record {
  from = from;
  told = ap (λ h. lists_at_end lines h rest) e ∙ (sym (told-passes lines a h rest) ∙ u.told);
  kept = ap (λ h. names_at_end h rest) e ∙ (sym (kept-passes lines a h rest) ∙ u.kept);
  notes = ap (λ h. notes_at_end lines h rest) e ∙ (sym (notes-pass lines a h rest) ∙ u.notes);
  covers = covers;
  limit = u.limit;
  ready = subst (IsReady from) (sym e) ready;
}

pub token-step : (lines : List MergedLine) (text : List ℕ) (all : List Answer) (h new : HeldState) (t : Seen)
    (rest : List Answer) → Underway lines text all h (Token t ∷ rest) → new ≡ held_step lines (Token t) h
    → WaitingKept new.pass.waiting (length new.kept) → length h.kept ≤ length new.kept
    → length new.kept ≤ length h.kept + 1 → Underway lines text all new rest
token-step lines text all h new t rest u e id grows one = step-on lines text all h new (Token t) rest t.span.end u e
    u.covers.2 (token-ready _ lines t u.from (settled lines (is_head_sign t.kind) (remark_put lines h))
    (is-token lines text all h t rest u) u.covers.0.order (ready-settled lines (is_head_sign t.kind) u.from h u.ready)
    (subst (λ (h : HeldState). WaitingKept h.pass.waiting (length h.kept)) e id) (subst (λ (g : HeldState). length
    h.kept ≤ length g.kept) e grows) (subst (λ (g : HeldState). length g.kept ≤ length h.kept + 1) e one) u.ready.few)

pub begin-step : (lines : List MergedLine) (text : List ℕ) (all : List Answer) (h new : HeldState) (t : Seen)
    (rest : List Answer)
    → Underway lines text all h (Begin t ∷ rest) → new ≡ held_step lines (Begin t) h → Underway lines text all new rest
begin-step lines text all h new t rest u e = step-on lines
    text all h new (Begin t) rest t.span.end u e u.covers.1 (grind (arith, ready-settled lines false u.from h u.ready))

pub finish-step : (lines : List MergedLine) (text : List ℕ) (all : List Answer) (h new : HeldState) (t : Seen)
    (rest : List Answer) → Underway lines text all h (Finish t ∷ rest) → new ≡ held_step lines (Finish t) h
    → Underway lines text all new rest
finish-step lines text all h new t rest u e = step-on lines
    text all h new (Finish t) rest t.span.end u e u.covers.1 (grind (arith, ready-settled lines false u.from h u.ready))

pub note-step : (lines : List MergedLine) (text : List ℕ) (all : List Answer) (h new : HeldState) (kind : NoteKind)
    (place : ℕ) (rest : List Answer) → Underway lines text all h (Note kind place ∷ rest)
    → new ≡ held_step lines (Note kind place) h → Underway lines text all new rest
note-step lines text all h new kind place rest u e =
    step-on lines text all h new (Note kind place) rest u.from u e u.covers (grind arith)

-- ## When all came

pub scanned : (lines : List MergedLine) (text : List ℕ) (all : List Answer) (h new : HeldState)
    → Underway lines text all h [] → new ≡ ended_held lines h → text ≡ text_of lines
    → all ≡ tokens_of text 0 (length text) modes.Limbo → Covers text 0 (length text) all → IsScanned lines new
scanned lines text all h new u e same tokens covers = grind (arith, common_steps)

pub waiting-kept : (w : Option WaitingToken) (count : ℕ) → WaitingIsKept w count → WaitingKept (waiting_of w) count
waiting-kept w count h = grind arith
