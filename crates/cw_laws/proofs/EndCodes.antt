-- Each code goes up to its end.
use Rattle.std.proofs.Common.{◌≡◌, ℕ, ◌+◌, ◌-◌, Bool, true, false, ◌==◌, List, [], ◌∷◌, ◌++◌, drop, length, take}
use Rattle.std.proofs.Common.{if◌then◌else◌, refl, sym, ap, subst, ◌∙◌, arith}
use Rattle.std.proofs.{lemmas.Bool.eqb-true, lemmas.Bool.Decides.nat_tests}
use Rattle.cw_base.specs.declared.notes.NoteKind.{NoteKind}
use Rattle.cw_rules.specs.declared.{codes.Code.Code, codes.Effect.Effect, parts.Part.Part, parts.Opened.Opened}
use Rattle.cw_rules.specs.declared.{tokens.Mode.Mode, tokens.TokKind.TokKind}
use Rattle.cw_rules.specs.Answers.{Answer, Note, Cut, note_answers, plain, dropped}
use Rattle.cw_rules.specs.{Bodies.at_start, Bodies.extent, Bytes.apostrophe, Bytes.at_sign}
use Rattle.cw_rules.specs.Codes.{code_at, code_of, is_section, effect_in_limbo, effect_in_tex, effect_in_c}
use Rattle.cw_rules.specs.Codes.{effect_in_definition, effect_at_begin, has_control_text}
use Rattle.cw_rules.specs.Tokens.{section_name, string, control_text, alone_size, is_quote, control_or_plain, effect_in}
use Rattle.cw_rules.specs.Tokens.{code_token, is_name, may_head, dropped_code}
use Rattle.cw_rules.proofs.Choices.{if-both}
use Rattle.cw_lex.specs.{Nested.is_section_kind, Openings.is_limbo_mode}
use Rattle.cw_laws.{specs.Strings.IsString, proofs.Insides.control-whole, proofs.Insides.name-whole}
use Rattle.cw_laws.specs.Ends.{BeginsCode, CodeGoesToEnd, GoesToEnd, HasName, HasOwnText}
use Rattle.cw_laws.proofs.{QuoteCodes.quote-byte, StillOpen.IsOrdinary, Strings.string-is}
use Rattle.cw_rules.specs.declared.bodies.Body.TheVariants as bodies
use Rattle.cw_rules.specs.declared.codes.Code.TheVariants as at
use Rattle.cw_rules.specs.declared.codes.Effect.TheVariants as effects
use Rattle.cw_rules.specs.declared.parts.Part.TheVariants as parts
use Rattle.cw_rules.specs.declared.tokens.TokKind.TheVariants as kinds

pub not-both : {A : Type 0} (b : Bool) → b ≡ true → b ≡ false → A
not-both true h k = absurd cc
not-both false h k = absurd cc

-- A token goes up to its end, and is no section code.
pub record IsWhole (mode : Mode) (opened : List TokKind) (bytes : List ℕ) (cut : Cut) : Type 0 where
  pub goes : (later : List Answer) → GoesToEnd mode opened cut.kind bytes cut.size (note_answers cut.notes ++ later)
  pub section : is_section_kind cut.kind ≡ false

-- ## What codes do

-- a code of two bytes
abbrev pub IsBare : Code → Type 0
IsBare code = (mode : Mode) (opened : List TokKind) (bytes : List ℕ) → BeginsCode code bytes
    → IsWhole mode opened bytes (plain (kinds.Code code) 2)

abbrev is_unknown : Code → Bool
is_unknown at.Unknown = true
is_unknown code = false

two-bytes : (code : Code) (bytes : List ℕ) → BeginsCode code bytes → is_unknown code ≡ false → 2 ≡ length (take 2 bytes)
two-bytes code [] b h = absurd cc
two-bytes code (byte ∷ []) b h = not-both (is_unknown code) (sym (ap is_unknown b.1)) h
two-bytes code (byte ∷ next ∷ bytes) b h = refl

bare-define : IsBare at.Define
bare-define mode opened bytes b = record {
  goes = λ later. (b, record { text = λ k. absurd cc; alone = λ k. two-bytes at.Define bytes b refl });
  section = refl;
}

bare-format : IsBare at.Format
bare-format mode opened bytes b = record {
  goes = λ later. (b, record { text = λ k. absurd cc; alone = λ k. two-bytes at.Format bytes b refl });
  section = refl;
}

bare-silent : IsBare at.SilentFormat
bare-silent mode opened bytes b = grind (arith, nat_tests, two-bytes)

bare-program : IsBare at.Program
bare-program mode opened bytes b = record {
  goes = λ later. (b, record { text = λ k. absurd cc; alone = λ k. two-bytes at.Program bytes b refl });
  section = refl;
}

ordinary-begin : IsOrdinary parts.Begin
ordinary-begin = record { base = refl; limbo = refl; inner = refl }

ordinary-definition : IsOrdinary parts.Definition
ordinary-definition = record { base = refl; limbo = refl; inner = refl }

ordinary-tex : IsOrdinary parts.Tex
ordinary-tex = record { base = refl; limbo = refl; inner = refl }

-- A code that begins a definition or a C part has two bytes, and stands in no inner C text and no limbo.
abbrev pub Suits : Effect → Part → Code → Type 0
Suits effects.Defines part code = IsOrdinary part × IsBare code
Suits effects.Formats part code = IsOrdinary part × IsBare code
Suits effects.BeginsC part code = IsOrdinary part × IsBare code
Suits effect part code = Unit {0}

c-suits : (part : Part) (code : Code) → Suits (effect_in_c code) part code
c-suits part at.Define = tt
c-suits part _ = tt

definition-suits : (code : Code) → Suits (effect_in_definition code) parts.Definition code
definition-suits at.Define = (ordinary-definition, bare-define)
definition-suits at.Format = (ordinary-definition, bare-format)
definition-suits at.SilentFormat = (ordinary-definition, bare-silent)
definition-suits at.Program = (ordinary-definition, bare-program)
definition-suits _ = tt

begin-suits : (code : Code) → Suits (effect_at_begin code) parts.Begin code
begin-suits at.Program = (ordinary-begin, bare-program)
begin-suits _ = tt

pub suits : (part : Part) (comments : List Opened) (code : Code) → Suits (effect_in part comments code) part code
suits parts.Definition [] code = definition-suits code
suits parts.Begin [] code = begin-suits code
suits parts.Definition (c ∷ cs) code = c-suits parts.Definition code
suits parts.Begin (c ∷ cs) code = c-suits parts.Begin code
suits part comments code = c-suits part code

pub tex-suits : (code : Code) → Suits (effect_in_tex code) parts.Tex code
tex-suits at.Define = (ordinary-tex, bare-define)
tex-suits at.Format = (ordinary-tex, bare-format)
tex-suits at.SilentFormat = (ordinary-tex, bare-silent)
tex-suits at.Program = (ordinary-tex, bare-program)
tex-suits _ = tt

-- the only such code in limbo
abbrev pub SuitsLimbo : Effect → Code → Type 0
SuitsLimbo effects.Formats code = IsBare code
SuitsLimbo effect code = Unit {0}

pub limbo-suits : (code : Code) → SuitsLimbo (effect_in_limbo code) code
limbo-suits at.SilentFormat = bare-silent
limbo-suits _ = tt

pub may-ordinary : (part : Part) (comments : List Opened) → may_head part comments ≡ true → IsOrdinary part
may-ordinary parts.Definition [] h = ordinary-definition
may-ordinary parts.Begin [] h = ordinary-begin
may-ordinary _ _ h = absurd cc

-- ## Tokens

section-kind : (code : Code) → is_section code ≡ false → is_section_kind (kinds.Code code) ≡ false
section-kind at.Section h = absurd cc
section-kind at.StarredSection h = absurd cc
section-kind _ h = refl

name-goes : (code : Code) (bytes : List ℕ) (size : ℕ) (answers : List Answer) → is_name code ≡ true
    → BeginsCode code bytes → HasName bytes size answers → CodeGoesToEnd code bytes size answers
name-goes code bytes size answers h b n = grind (arith, nat_tests)

quote-goes : (code : Code) (bytes : List ℕ) (size : ℕ) (answers : List Answer) → is_quote code ≡ true
    → BeginsCode code bytes → IsString (drop 1 bytes) (size - 1) → CodeGoesToEnd code bytes size answers
quote-goes code bytes size answers h b s = grind (arith, nat_tests)

own-goes : (code : Code) (bytes : List ℕ) (size : ℕ) (answers : List Answer) → is_name code ≡ false
    → is_quote code ≡ false → BeginsCode code bytes → HasOwnText (has_control_text code) bytes size answers
    → CodeGoesToEnd code bytes size answers
own-goes at.Section bytes size answers n q b t = tt
own-goes at.StarredSection bytes size answers n q b t = tt
own-goes at.SectionName bytes size answers n q b t = absurd cc
own-goes at.FileName bytes size answers n q b t = absurd cc
own-goes at.Quote bytes size answers n q b t = absurd cc
own-goes _ bytes size answers n q b t = (b, t)

-- the string of the `'` behind an `@`
string-goes : (place byte next : ℕ) (bytes : List ℕ) → is_quote (code_of next) ≡ true
    → IsString (next ∷ bytes) ((2 + (extent (at_start (bodies.Quoted apostrophe) (place + 2)) bytes).size) - 1)
string-goes place byte next bytes h =
    subst (λ n. IsString (n ∷ bytes) ((2 + size) - 1)) (sym (eqb-true next apostrophe (quote-byte next h)))
    (subst (λ n. IsString (apostrophe ∷ bytes) n) (less size) (string-is [] refl apostrophe (place + 2) bytes refl))
  where
    size : ℕ
    size = (extent (at_start (bodies.Quoted apostrophe) (place + 2)) bytes).size

    less : (n : ℕ) → (0 + 1) + n ≡ (2 + n) - 1
    less n = omega arith

size-alone : (byte : ℕ) (bytes : List ℕ) → alone_size (byte ∷ bytes) ≡ length (take 2 (byte ∷ bytes))
size-alone byte [] = refl
size-alone byte (next ∷ bytes) = refl

-- a code with its control text, where it has one
own-text : (code : Code) (place byte : ℕ) (bytes : List ℕ) (later : List Answer) → code_at bytes ≡ code
    → HasOwnText (has_control_text code) (byte ∷ bytes) (control_or_plain code place (byte ∷ bytes)).size
    (note_answers (control_or_plain code place (byte ∷ bytes)).notes ++ later)
own-text code place byte [] later is = record {
  text = λ h. not-both _ h (ap has_control_text (sym is));
  alone = λ h. none (has_control_text code) h;
}
  where
    none : (t : Bool) → t ≡ false
        → (if t then control_text code place (byte ∷ []) else plain (kinds.Code code) (alone_size (byte ∷ []))).size ≡ 1
    none t h = grind (arith, nat_tests)
own-text code place byte (next ∷ bytes) later is = by (has_control_text code)
  where
    cut : Bool → Cut
    cut t = if t then control_text code place (byte ∷ next ∷ bytes)
        else plain (kinds.Code code) (alone_size (byte ∷ next ∷ bytes))

    by : (t : Bool) → HasOwnText t (byte ∷ next ∷ bytes) (cut t).size (note_answers (cut t).notes ++ later)
    by true = record { text = λ h. control-whole (place + 2) byte next bytes later; alone = λ h. absurd cc }
    by false = record { text = λ h. absurd cc; alone = λ h. refl }

own-kind : (code : Code) (place : ℕ) (bytes : List ℕ) → (control_or_plain code place bytes).kind ≡ kinds.Code code
own-kind code place bytes = if-both (λ (c : Cut). c.kind ≡ kinds.Code code) (has_control_text code)
    (control_text code place bytes) (plain (kinds.Code code) (alone_size bytes)) (λ h. refl) (λ h. refl)

own-whole : (mode : Mode) (opened : List TokKind) (code : Code) (place byte : ℕ) (bytes : List ℕ)
    → (byte == at_sign) ≡ true → code_at bytes ≡ code → is_section code ≡ false → is_name code ≡ false
    → is_quote code ≡ false → IsWhole mode opened (byte ∷ bytes) (control_or_plain code place (byte ∷ bytes))
own-whole mode opened code place byte bytes sign is other n q =
    let cut = control_or_plain code place (byte ∷ bytes) in
    record {
      goes = λ later. subst (λ k. GoesToEnd mode opened k (byte ∷ bytes) cut.size (note_answers cut.notes ++ later))
          (sym (own-kind code place (byte ∷ bytes)))
          (own-goes code (byte ∷ bytes) cut.size _ n q (sign, is) (own-text code place byte bytes later is));
      section = ap is_section_kind (own-kind code place (byte ∷ bytes)) ∙ section-kind code other;
    }

pub code-whole : (mode : Mode) (opened : List TokKind) (place byte : ℕ) (bytes : List ℕ)
    → (byte == at_sign) ≡ true → is_section (code_at bytes) ≡ false
    → IsWhole mode opened (byte ∷ bytes) (code_token (code_at bytes) place (byte ∷ bytes))
code-whole mode opened place byte [] sign other =
    own-whole mode opened at.Unknown place byte [] sign refl refl refl refl
code-whole mode opened place byte (next ∷ bytes) sign other =
    let all = byte ∷ next ∷ bytes in
    let code = code_of next in
    let P : Cut → Type 0 = IsWhole mode opened all in
    if-both P (is_name code) (section_name code place all) _ (λ h. record {
      goes = λ later. name-goes code all _ _ h (sign, refl) (name-whole code place byte next bytes later);
      section = section-kind code other;
    }) (λ n. if-both P (is_quote code) (string (kinds.Code code) 2 apostrophe place all)
    (control_or_plain code place all) (λ h. record {
      goes = λ later. quote-goes code all _ _ h (sign, refl) (string-goes place byte next bytes h);
      section = section-kind code other;
    }) (λ q. own-whole mode opened code place byte (next ∷ bytes) sign refl other n q))

-- ## Codes that are dropped

-- one more note before
noted-on : (has_text : Bool) (bytes : List ℕ) (size : ℕ) (note : NoteKind) (place : ℕ) (answers : List Answer)
    → HasOwnText has_text bytes size answers → HasOwnText has_text bytes size (Note note place ∷ answers)
noted-on has_text bytes size note place answers h = grind (arith, nat_tests)

pub dropped-whole : (mode : Mode) (opened : List TokKind) (note : NoteKind) (place byte : ℕ) (bytes : List ℕ)
    → (byte == at_sign) ≡ true → is_limbo_mode mode ≡ false
    → IsWhole mode opened (byte ∷ bytes) (dropped_code note (code_at bytes) place (byte ∷ bytes))
dropped-whole mode opened note place byte bytes sign other = grind (arith, nat_tests, noted-on, own-text)

pub limbo-dropped-whole : (mode : Mode) (opened : List TokKind) (note : NoteKind) (place byte : ℕ) (bytes : List ℕ)
    → (byte == at_sign) ≡ true → is_limbo_mode mode ≡ true → IsWhole mode opened (byte ∷ bytes)
    (dropped note place (plain (kinds.Code (code_at bytes)) (alone_size (byte ∷ bytes))))
limbo-dropped-whole mode opened note place byte bytes sign h = grind (arith, nat_tests, not-both, size-alone)
