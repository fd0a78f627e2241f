-- At the code of a definition, and at the code or the name of a C part, what begins is the same as where the part
-- begins.
use Rattle.std.proofs.Common.{arith, ◌≡◌, ℕ, Bool, true, false, List, [], ◌∷◌, refl, sym, ap, subst}
use Rattle.std.specs.Prelude.{if◌then◌else◌}
use Rattle.std.proofs.lemmas.Bool.Decides.{nat_tests}
use Rattle.cw_rules.specs.declared.{bodies.NoteAt.NoteAt, codes.Code.Code, parts.Part.Part, parts.Opened.Opened}
use Rattle.cw_rules.specs.Answers.{Answer, Token, Note, Seen, Where, Cut, ScanStep, before}
use Rattle.cw_rules.specs.Codes.{code_at, is_section, effect_in_tex, effect_in_c, effect_in_definition, effect_at_begin}
use Rattle.cw_rules.specs.Tokens.{one, moved, passed, in_hash_line, effect_in, is_head, is_name, is_space, code_by}
use Rattle.cw_rules.specs.Tokens.{code_token, tex_by, section}
use Rattle.cw_rules.specs.model.Apart.{code_text_apart, comment_text_apart, part_text_apart, in_text_apart, found_apart}
use Rattle.cw_rules.proofs.{Choices.if-both, Choices.and-none, Taking.AreNotes}
use Rattle.cw_rules.proofs.CodeStarts.{is_definition_code, code_in, is_limbo, is_head_where}
use Rattle.cw_base.specs.declared.notes.NoteKind.TheVariants as notes
use Rattle.cw_rules.specs.declared.codes.Code.TheVariants as at
use Rattle.cw_rules.specs.declared.parts.Behind.TheVariants as behinds
use Rattle.cw_rules.specs.declared.parts.Part.TheVariants as parts

abbrev pub is_program_code : Code → Bool
is_program_code at.Program = true
is_program_code code = false

-- where definitions begin, and where a C part begins
abbrev pub definition : Where
definition = record { part = parts.Definition; comments = [] }

abbrev pub program : Where
program = record { part = parts.Begin; comments = [] }

abbrev tex : Where
tex = record { part = parts.Tex; comments = [] }

-- two findings are the same but for notes before the first, and a token comes first in the second
pub record Twin (f g : ScanStep) : Type 0 where
  pub notes : List Answer
  pub only : AreNotes notes
  pub same : f ≡ before notes g
  pub token : Seen
  pub behind : List Answer
  pub first : g.answers ≡ Token token ∷ behind

note-twin : (n : NoteAt) (f g : ScanStep) → Twin f g → Twin (before (Note n.kind n.place ∷ []) f) g
note-twin n f g t = record {
  notes = Note n.kind n.place ∷ t.notes;
  only = t.only;
  same = ap (before (Note n.kind n.place ∷ [])) t.same;
  token = t.token;
  behind = t.behind;
  first = t.first;
}

-- ## A code of C text

no-space : (part : Part) (bytes : List ℕ) → is_space part 64 bytes ≡ false
no-space part bytes = and-none (in_hash_line part)

pub at-code : (w : Where) (fresh : Bool) (last place : ℕ) (bytes : List ℕ) → code_text_apart w fresh last place 64 bytes
    ≡ code_by (effect_in w.part w.comments (code_at bytes)) (code_at bytes) w place (64 ∷ bytes)
at-code w fresh last place bytes = grind (arith, nat_tests, no-space)

-- what begins at a code that is no section code
abbrev at_definition : Code → ℕ → List ℕ → ScanStep
at_definition c place bytes = code_by (effect_in_definition c) c definition place bytes

abbrev at_program : Code → ℕ → List ℕ → ScanStep
at_program c place bytes = code_by (effect_at_begin c) c program place bytes

-- The codes that begin a part there: those of definitions, those of C parts, and a name behind which the sign is
-- wanted.
abbrev Defines : ScanStep → Type 0
Defines f = is_definition_code (code_in f.answers) ≡ true

abbrev Programs : ScanStep → Type 0
Programs f = is_program_code (code_in f.answers) ≡ true

-- ## Definitions

no-definition : (c : Code) (w : Where) (place : ℕ) (bytes : List ℕ)
    → is_definition_code (code_in (code_by (effect_in_c c) c w place bytes).answers) ≡ false
no-definition at.Define w place bytes = refl
no-definition at.Format w place bytes = refl
no-definition at.SilentFormat w place bytes = refl
no-definition _ w place bytes = refl

no-definition-first : (c : Code) (w : Where) (place : ℕ) (bytes : List ℕ)
    → is_definition_code (code_in (code_by (effect_at_begin c) c w place bytes).answers) ≡ false
no-definition-first x1 w place bytes = grind (arith, nat_tests)

wrong : {A : Type 0} (b : Bool) → b ≡ true → b ≡ false → A
wrong true h k = absurd cc
wrong false h k = absurd cc

definition-twin : (c : Code) (place : ℕ) (bytes : List ℕ) (f : ScanStep) → f ≡ at_definition c place bytes
    → is_definition_code c ≡ true → Twin f (at_definition c place bytes)
definition-twin at.Define place bytes f e h = record {
  notes = [];
  only = tt;
  same = e;
  token = _;
  behind = _;
  first = refl;
}
definition-twin at.Format place bytes f e h = record {
  notes = [];
  only = tt;
  same = e;
  token = _;
  behind = _;
  first = refl;
}
definition-twin at.SilentFormat place bytes f e h =
    record { notes = []; only = tt; same = e; token = _; behind = _; first = refl }
definition-twin _ place bytes f e h = absurd cc

code-definition : (part : Part) (cs : List Opened) (c : Code) (place : ℕ) (bytes : List ℕ) → is_definition_code c ≡ true
    → Defines (code_by (effect_in part cs c) c (record { part = part; comments = cs }) place bytes) → Twin (code_by
    (effect_in part cs c) c (record { part = part; comments = cs }) place bytes) (at_definition c place bytes)
code-definition parts.Definition [] c place bytes d h = definition-twin c place bytes _ refl d
code-definition parts.Begin [] c place bytes d h =
    wrong _ h (no-definition-first c (record { part = parts.Begin; comments = [] }) place bytes)
code-definition part cs c place bytes d h = wrong _ h (no-definition c (record { part = part; comments = cs }) place
    bytes)

tex-definition : (c : Code) (place : ℕ) (bytes : List ℕ) → is_definition_code c ≡ true
    → Twin (tex_by (effect_in_tex c) c tex place bytes) (at_definition c place bytes)
tex-definition at.Define place bytes d = definition-twin at.Define place bytes _ refl d
tex-definition at.Format place bytes d = definition-twin at.Format place bytes _ refl d
tex-definition at.SilentFormat place bytes d = definition-twin at.SilentFormat place bytes _ refl d
tex-definition _ place bytes d = absurd cc

-- ## C parts

no-program : (c : Code) (w : Where) (place : ℕ) (bytes : List ℕ)
    → is_program_code (code_in (code_by (effect_in_c c) c w place bytes).answers) ≡ false
no-program at.Program w place bytes = refl
no-program _ w place bytes = refl

program-twin : (c : Code) (place : ℕ) (bytes : List ℕ) (f : ScanStep) → f ≡ at_program c place bytes → is_program_code c
    ≡ true → Twin f (at_program c place bytes)
program-twin at.Program place bytes f e h = record {
  notes = [];
  only = tt;
  same = e;
  token = _;
  behind = _;
  first = refl;
}
program-twin _ place bytes f e h = absurd cc

program-in-definition : (c : Code) (place : ℕ) (bytes : List ℕ) → is_program_code c ≡ true → at_definition c place bytes
    ≡ at_program c place bytes
program-in-definition at.Program place bytes h = refl
program-in-definition _ place bytes h = absurd cc

code-program : (part : Part) (cs : List Opened) (c : Code) (place : ℕ) (bytes : List ℕ) → is_program_code c ≡ true
    → Programs (code_by (effect_in part cs c) c (record { part = part; comments = cs }) place bytes) → Twin (code_by
    (effect_in part cs c) c (record { part = part; comments = cs }) place bytes) (at_program c place bytes)
code-program part cs c place bytes d h =
    grind (arith, nat_tests, program-twin, program-in-definition, wrong, no-program)

tex-program : (c : Code) (place : ℕ) (bytes : List ℕ) → is_program_code c ≡ true
    → Twin (tex_by (effect_in_tex c) c tex place bytes) (at_program c place bytes)
tex-program c place bytes d = grind (arith, program-twin)

-- ## Names

abbrev head : Where
head = record { part = parts.Head; comments = [] }

-- a name behind which the sign of a head is wanted
headed-twin : (t : Bool) (other w : Where) (place : ℕ) (bytes : List ℕ) (cut : Cut) → is_head_where other ≡ false
    → is_head_where (if t then head else other) ≡ true
    → Twin (one false (if t then head else other) place bytes cut) (one false (if t then head else w) place bytes cut)
headed-twin true other w place bytes cut o h = record {
  notes = [];
  only = tt;
  same = refl;
  token = _;
  behind = _;
  first = refl;
}
headed-twin false other w place bytes cut o h = wrong _ h o

not-head : (part : Part) (cs : List Opened) → is_head_where (record { part = part; comments = cs }) ≡ false
    → is_head_where (record { part = passed part; comments = cs }) ≡ false
not-head part cs h = grind (arith, nat_tests)

-- what a name makes in C text
abbrev name_found : Code → Where → ℕ → List ℕ → ScanStep
name_found c w place bytes = code_by (effect_in w.part w.comments c) c w place bytes

code-name : (c : Code) (part : Part) (cs : List Opened) (place : ℕ) (bytes : List ℕ) → is_name c ≡ true
    → is_head_where (record { part = part; comments = cs }) ≡ false
    → is_head_where (name_found c (record { part = part; comments = cs }) place bytes).next ≡ true
    → Twin (name_found c (record { part = part; comments = cs }) place bytes) (at_program c place bytes)
code-name at.SectionName parts.Definition [] place bytes n o h = headed-twin (is_head place (bytes)) definition
    (moved program (parts.Plain false behinds.Other)) place bytes (code_token at.SectionName place bytes) refl h
code-name at.SectionName parts.Begin [] place bytes n o h = headed-twin (is_head place (bytes))
    (moved program (parts.Plain false behinds.Other)) (moved program (parts.Plain false behinds.Other)) place bytes
    (code_token at.SectionName place bytes) refl h
code-name at.SectionName part cs place bytes n o h = wrong _ h (not-head part cs o)
code-name at.FileName parts.Definition [] place bytes n o h = headed-twin (is_head place (bytes)) definition
    (moved program (parts.Plain false behinds.Other)) place bytes (code_token at.FileName place bytes) refl h
code-name at.FileName parts.Begin [] place bytes n o h = headed-twin (is_head place (bytes)) (moved program (parts.Plain
    false behinds.Other)) (moved program (parts.Plain false behinds.Other)) place bytes (code_token at.FileName place
    bytes) refl h
code-name at.FileName part cs place bytes n o h = wrong _ h (not-head part cs o)
code-name _ part cs place bytes n o h = absurd cc

tex-name : (c : Code) (place : ℕ) (bytes : List ℕ) → is_name c ≡ true → is_head_where (tex_by (effect_in_tex c) c tex
    place bytes).next ≡ true → Twin (tex_by (effect_in_tex c) c tex place bytes) (at_program c place bytes)
tex-name at.SectionName place bytes n h = headed-twin (is_head place bytes) tex
    (moved program (parts.Plain false behinds.Other)) place bytes (code_token at.SectionName place bytes) refl h
tex-name at.FileName place bytes n h = headed-twin (is_head place bytes) tex (moved program (parts.Plain false
    behinds.Other))
    place bytes (code_token at.FileName place bytes) refl h
tex-name _ place bytes n h = absurd cc

-- ## Which part begins

-- A part begins with what begins here: definitions, or a C part.
pub data Opens : Type 0 where
  Definitions : Opens
  Program : Opens
  Named : Opens

abbrev pub OpensBy : Opens → ScanStep → Type 0
OpensBy Definitions f = is_definition_code (code_in f.answers) ≡ true
OpensBy Program f = is_program_code (code_in f.answers) ≡ true
OpensBy Named f = (is_name (code_in f.answers) ≡ true) × (is_head_where f.next ≡ true)

-- its code
abbrev pub OpensAt : Opens → Code → Type 0
OpensAt Definitions c = is_definition_code c ≡ true
OpensAt Program c = is_program_code c ≡ true
OpensAt Named c = is_name c ≡ true

abbrev pub beginning_of : Opens → Where
beginning_of Definitions = definition
beginning_of Program = program
beginning_of Named = program

-- what begins there where the part begins
abbrev opened : Opens → Code → ℕ → List ℕ → ScanStep
opened Definitions c place bytes = at_definition c place bytes
opened Program c place bytes = at_program c place bytes
opened Named c place bytes = at_program c place bytes

record Twins (o : Opens) (g f : ScanStep) : Type 0 where
  twin : OpensBy o f → Twin f g

code-twins : (o : Opens) (part : Part) (cs : List Opened) (c : Code) (place : ℕ) (bytes : List ℕ)
    → is_head_where (record { part = part; comments = cs }) ≡ false → OpensAt o c → Twins o (opened o c place bytes)
    (code_by (effect_in part cs c) c (record { part = part; comments = cs }) place bytes)
code-twins o part cs c place bytes n d = grind (arith, code-definition, code-program, code-name)

text-twins : (o : Opens) (w : Where) (fresh : Bool) (last place : ℕ) (bytes : List ℕ) → is_head_where w ≡ false
    → OpensAt o (code_at bytes)
    → Twins o (opened o (code_at bytes) place (64 ∷ bytes)) (code_text_apart w fresh last place 64 bytes)
text-twins o w fresh last place bytes n d = subst (Twins o (opened o (code_at bytes) place (64 ∷ bytes)))
    (sym (at-code w fresh last place bytes)) (code-twins o w.part w.comments (code_at bytes) place (64 ∷ bytes) n d)

tex-twins : (o : Opens) (c : Code) (place : ℕ) (bytes : List ℕ) → OpensAt o c
    → Twins o (opened o c place bytes) (tex_by (effect_in_tex c) c tex place bytes)
tex-twins x1 c place bytes d = grind (arith, nat_tests, tex-definition, tex-program, tex-name)

note-twins : (o : Opens) (n : NoteAt) (g f : ScanStep) → Twins o g f → Twins o g (before (Note n.kind n.place ∷ []) f)
note-twins x1 n g f t = grind (arith, nat_tests, note-twin)

-- what is no code opens nothing
none-twins : (o : Opens) (g f : ScanStep) → code_in f.answers ≡ at.Unknown → Twins o g f
none-twins x1 g f e = grind (arith, nat_tests, wrong, is_definition_code)

comment-twins : (o : Opens) (g : ScanStep) (part : Part) (c : Opened) (cs : List Opened) (last place : ℕ)
    (bytes : List ℕ)
    → Twins o g (comment_text_apart part c cs last place 64 bytes)
comment-twins o g part c cs last place bytes = grind (arith, nat_tests, if-both, wrong, and-none, none-twins)

part-twins : (o : Opens) (part : Part) (fresh : Bool) (last place : ℕ) (bytes : List ℕ) → is_limbo part ≡ false
    → OpensAt o (code_at bytes) → Twins o (opened o (code_at bytes) place (64 ∷ bytes))
    (part_text_apart part (record { part = part; comments = [] }) fresh last place 64 bytes)
part-twins o parts.Limbo fresh last place bytes l d = absurd cc
part-twins o parts.Tex fresh last place bytes l d = tex-twins o (code_at bytes) place (64 ∷ bytes) d
part-twins o parts.Head fresh last place bytes l d = none-twins o _ _ refl
part-twins o (parts.MacroName code) fresh last place bytes l d =
    note-twins o (record { kind = notes.ImproperMacro; place = code }) _
    (code_text_apart definition fresh last place 64 bytes) (text-twins o definition fresh last place bytes refl d)
part-twins o (parts.MacroParen code) fresh last place bytes l d = none-twins o _ _ refl
part-twins o (parts.Parameters code) fresh last place bytes l d =
    note-twins o (record { kind = notes.ImproperMacro; place = code }) _
    (code_text_apart definition fresh last place 64 bytes) (text-twins o definition fresh last place bytes refl d)
part-twins o (parts.FormatName code second true) fresh last place bytes l d = absurd cc
part-twins o (parts.FormatName code second false) fresh last place bytes l d =
    note-twins o (record { kind = notes.ImproperFormat; place = code }) _
    (code_text_apart definition fresh last place 64 bytes) (text-twins o definition fresh last place bytes refl d)
part-twins o parts.Definition fresh last place bytes l d = text-twins o definition fresh last place bytes refl d
part-twins o x fresh last place bytes l d = text-twins o (record { part = x; comments = [] })
    fresh last place bytes refl d

open-no-head : (part : Part) (c : Opened) (cs : List Opened) → is_head_where (record { part = part; comments = c ∷ cs })
    ≡ false
open-no-head parts.Head c cs = refl
open-no-head _ c cs = refl

in-text-twins : (o : Opens) (part : Part) (cs : List Opened) (fresh : Bool) (last place : ℕ) (bytes : List ℕ)
    → is_limbo part ≡ false → OpensAt o (code_at bytes)
    → Twins o (opened o (code_at bytes) place (64 ∷ bytes)) (in_text_apart part cs fresh last place 64 bytes)
in-text-twins o part [] fresh last place bytes l d = part-twins o part fresh last place bytes l d
in-text-twins o part (c ∷ cs) fresh last place bytes l d =
    let w : Where = record { part = part; comments = c ∷ cs } in
    let g = opened o (code_at bytes) place (64 ∷ bytes) in
    if-both (Twins o g) c.inner (code_text_apart w fresh last place 64 bytes)
    (comment_text_apart part c cs last place 64 bytes) (λ e. text-twins o w fresh last place bytes
    (open-no-head part c cs) d) (λ e. comment-twins o g part c cs last place bytes)

found-part : (o : Opens) (fresh : Bool) (last place : ℕ) (bytes : List ℕ) → is_section (code_at bytes) ≡ false
    → found_apart (beginning_of o) fresh last place 64 bytes ≡ opened o (code_at bytes) place (64 ∷ bytes)
found-part x1 fresh last place bytes h = grind (arith, nat_tests, nat_tests, at-code)

-- Where a part begins outside of limbo, what begins is what begins there where the scan of the part begins.
pub found-twin : (o : Opens) (w : Where) (fresh : Bool) (last place : ℕ) (bytes : List ℕ) → is_limbo w.part ≡ false
    → is_section (code_at bytes) ≡ false → OpensAt o (code_at bytes) → OpensBy o (found_apart w fresh last place 64
    bytes) → Twin (found_apart w fresh last place 64 bytes) (found_apart (beginning_of o) fresh last place 64 bytes)
found-twin o w fresh last place bytes l s d h =
    let plain = ap (λ t. if t then section w place bytes else in_text_apart w.part w.comments fresh last place 64 bytes)
    s in
    let t : Twin (in_text_apart w.part w.comments fresh last place 64 bytes) (opened o (code_at bytes) place
    (64 ∷ bytes)) = (in-text-twins o w.part w.comments fresh last place bytes l d).twin (subst (OpensBy o) plain h) in
    subst (λ f. Twin f (found_apart (beginning_of o) fresh last place 64 bytes)) (sym plain) (subst
    (Twin (in_text_apart w.part w.comments fresh last place 64 bytes)) (sym (found-part o fresh last place bytes s)) t)
