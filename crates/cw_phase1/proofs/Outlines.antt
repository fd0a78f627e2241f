-- The sections that are told are those of the whole list.
use Rattle.cw_phase1.proofs.Terms.{◌≡◌, ℕ, Bool, true, false, List, [], ◌∷◌, ◌++◌, Option, Some, None, refl, ap, ◌∙◌}
use Rattle.cw_phase1.proofs.Terms.{append_assoc, if◌then◌else◌, arith, append-nil, MergedLine, SecId, Section, Sections}
use Rattle.cw_phase1.proofs.Terms.{Open, TokenLists, holds_changed, Placement, span, ends_tex, ends_definitions}
use Rattle.cw_phase1.proofs.Terms.{ends_section, first_start, c_part_name, sections_of, is_section_code, or_here}
use Rattle.cw_phase1.proofs.Terms.{name_here, opened, with_token, closed_at, closing, closing_by, open_with, unwrap_or}
use Rattle.cw_phase1.proofs.Terms.{told_all, told_step, told_start}

-- the name of the token that ends the definitions, now or later
abbrev name_or : Option ℕ → Option SecId → Option SecId → Option SecId
name_or None before later = later
name_or (Some first) before later = before

-- An open section, where these tokens are still to come.
abbrev open_section : List MergedLine → ℕ → Open → List Placement → Section
open_section lines size o ps = record {
  starred = o.starred;
  depth = o.depth;
  tex = span o.behind (unwrap_or o.tex_end (first_start ends_tex size ps));
  definitions = span (unwrap_or o.tex_end (first_start ends_tex size ps))
      (unwrap_or o.definitions_end (first_start ends_definitions size ps));
  c_part = span (unwrap_or o.definitions_end (first_start ends_definitions size ps)) (first_start ends_section size ps);
  name = name_or o.definitions_end o.name (c_part_name ps);
  changed = holds_changed lines 0 o.start (first_start ends_section size ps);
}

abbrev sections_by : Option Open → List MergedLine → ℕ → List Placement → List Section
sections_by None lines size ps = sections_of lines size ps
sections_by (Some o) lines size ps = open_section lines size o ps ∷ sections_of lines size ps

abbrev sections_behind : List MergedLine → ℕ → Sections → List Placement → List Section
sections_behind lines size s ps = s.closed ++ sections_by s.open_one lines size ps

-- Where the name of a section is kept, its definitions ended; before they ended it has none.
abbrev IsNamed : Open → Type 0
IsNamed o = o.definitions_end ≡ None → o.name ≡ None

-- ## One token more

first-by : (t : Bool) (here later : ℕ) → (if t then here else later) ≡ unwrap_or (or_here None t here) later
first-by t here later = grind arith

first-here : (o : Option ℕ) (test : Placement → Bool) (size : ℕ) (p : Placement) (ps : List Placement) → unwrap_or o
    (first_start test size (p ∷ ps)) ≡ unwrap_or (or_here o (test p) p.token.span.start) (first_start test size ps)
first-here o test size p ps = grind (arith, first-by)

name-by : (t : Bool) (place : ℕ) (before here later : Option SecId)
    → (if t then here else later) ≡ name_or (or_here None t place) (name_here None t before here) later
name-by t place before here later = grind arith

named-here : (o : Option ℕ) (before : Option SecId) (p : Placement) (ps : List Placement) → is_section_code p.role
    ≡ false
    → name_or o before (c_part_name (p ∷ ps)) ≡ name_or (or_here o (ends_definitions p) p.token.span.start)
    (name_here o (ends_definitions p) before p.name) (c_part_name ps)
named-here o before p ps h = grind (arith, name-by)

no-end : (size : ℕ) (p : Placement) (ps : List Placement) → is_section_code p.role ≡ false
    → first_start ends_section size (p ∷ ps) ≡ first_start ends_section size ps
no-end size p ps h = ap (λ (t : Bool). if t then p.token.span.start else first_start ends_section size ps) h

goes-on : (lines : List MergedLine) (size : ℕ) (o : Open) (p : Placement) (ps : List Placement)
    → is_section_code p.role ≡ false → open_section lines size o (p ∷ ps) ≡ open_section lines size (with_token p o) ps
goes-on lines size o p ps h = grind (arith, first-here, no-end, named-here)

none-here : (lines : List MergedLine) (size : ℕ) (p : Placement) (ps : List Placement) → is_section_code p.role ≡ false
    → sections_of lines size (p ∷ ps) ≡ sections_of lines size ps
none-here lines size p ps h = grind arith

goes-by : (o : Option Open) (lines : List MergedLine) (size : ℕ) (p : Placement) (ps : List Placement)
    → is_section_code p.role ≡ false → sections_by o lines size (p ∷ ps) ≡ sections_by (open_with o p) lines size ps
goes-by o lines size p ps h = grind (arith, none-here, goes-on)

-- ## The section that is open closes

name-end : (d : Option ℕ) (name : Option SecId) → (d ≡ None → name ≡ None) → name ≡ name_or d name None
name-end d name h = grind arith

abbrev AreNamed : Option Open → Type 0
AreNamed None = Unit {0}
AreNamed (Some o) = IsNamed o

named-by : (d : Option ℕ) (t : Bool) (place : ℕ) (before here : Option SecId) → (d ≡ None → before ≡ None)
    → or_here d t place ≡ None → name_here d t before here ≡ None
named-by d t place before here n h = grind arith

named-with : (o : Option Open) (p : Placement) → AreNamed o → AreNamed (open_with o p)
named-with o p n = grind (arith, named-by)

ends-now : (lines : List MergedLine) (size : ℕ) (o : Open) (p : Placement) (ps : List Placement) → IsNamed o
    → is_section_code p.role ≡ true → closed_at lines p.token.span.start o ≡ open_section lines size o (p ∷ ps)
ends-now lines size o p ps n h = grind (arith, name-end)

one-here : (lines : List MergedLine) (size : ℕ) (p : Placement) (ps : List Placement) → is_section_code p.role ≡ true
    → open_section lines size (opened p.token) ps ∷ sections_of lines size ps ≡ sections_of lines size (p ∷ ps)
one-here lines size p ps h = grind arith

closes-by : (o : Option Open) (lines : List MergedLine) (size : ℕ) (closed : List Section) (p : Placement) (ps : List
    Placement) → AreNamed o → is_section_code p.role ≡ true → closing_by o lines p.token.span.start closed
    ++ (open_section
    lines size (opened p.token) ps ∷ sections_of lines size ps) ≡ closed ++ sections_by o lines size (p ∷ ps)
closes-by o lines size closed p ps n h = grind (arith, one-here, append_assoc, ends-now)

-- The sections that are told in the end.
sections-told : (lines : List MergedLine) (size : ℕ) (ps : List Placement) (t : TokenLists)
    → AreNamed t.sections.open_one
    → closing lines size (told_all lines ps t).sections ≡ sections_behind lines size t.sections ps
sections-told lines size [] t n = grind (arith, append-nil, name-end)
sections-told lines size (p ∷ ps) t n =
    sections-told _ size ps (told_step lines p t) (grind (arith, named-with)) ∙ (grind (arith, closes-by, goes-by))

pub all-sections : (lines : List MergedLine) (size : ℕ) (ps : List Placement)
    → closing lines size (told_all lines ps told_start).sections ≡ sections_of lines size ps
all-sections lines size ps = sections-told lines size ps told_start tt

limbo-told : (lines : List MergedLine) (size : ℕ) (ps : List Placement) (t : TokenLists) → unwrap_or (told_all lines ps
    t).sections.limbo_end size ≡ unwrap_or t.sections.limbo_end (first_start ends_section size ps)
limbo-told lines size [] t = refl
limbo-told lines size (p ∷ ps) t = grind (arith, limbo-told lines size ps (told_step lines p t), first-here, no-end)

pub all-limbo : (lines : List MergedLine) (size : ℕ) (ps : List Placement)
    → unwrap_or (told_all lines ps told_start).sections.limbo_end size ≡ first_start ends_section size ps
all-limbo lines size ps = limbo-told lines size ps told_start
