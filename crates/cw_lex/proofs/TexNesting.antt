-- The scanner's answers over TeX text are nested.
use Rattle.std.proofs.Common.{◌≡◌, ℕ, zero, suc, ◌+◌, ◌-◌, Bool, true, false, ◌&&◌, Option, Some, None, List, [], ◌∷◌}
use Rattle.std.proofs.Common.{◌++◌, refl, ◌∙◌, ap, arith}
use Rattle.std.specs.Prelude.{◌==◌}
use Rattle.cw_rules.specs.declared.{bodies.NoteAt.NoteAt, codes.Code.Code, codes.Effect.Effect, parts.Part.Part}
use Rattle.cw_rules.specs.declared.{parts.Opened.Opened, tokens.TokKind.TokKind}
use Rattle.cw_rules.specs.{Bytes.at_sign, model.Apart.in_text_apart, model.Apart.found_apart}
use Rattle.cw_rules.specs.Codes.{code_at, begins_section, effect_in_tex}
use Rattle.cw_rules.specs.Answers.{Answer, Where, Cut, ScanStep, note_answers}
use Rattle.cw_lex.{specs.Lexing.answers, specs.Lexing.tokens_of, specs.Lexing.still_fresh, specs.Nested.begins_part_in}
use Rattle.cw_lex.{specs.Nested.is_part_answer, proofs.Nesting.cut-one, proofs.Nesting.section-kind}
use Rattle.cw_rules.specs.Tokens.{one, dropped_code, moved, is_name, is_head, code_token, comment_cut, inner_or_none}
use Rattle.cw_rules.specs.Tokens.{all_cut, tex_by, tex_text, head_text, section}
use Rattle.cw_lex.specs.Nested.{Level, InCode, InComment, after_token, after_begin, levels_after, all_levels_after}
use Rattle.cw_lex.specs.Nested.{tex_levels_after, all_tex_levels_after, IsTexNested, is_section_kind, is_part_kind}
use Rattle.cw_rules.proofs.{Choices.if-both, Choices.or-first, Choices.or-second, Rules.code-rule}
use Rattle.cw_lex.proofs.Nesting.{Goes, levels_in, nested_in, in_tex, rule-goes, open-goes, inner-nested, open-levels}
use Rattle.std.proofs.lemmas.Bool.Decides.{nat_tests}
use Rattle.cw_rules.specs.declared.codes.Effect.TheVariants as effects
use Rattle.cw_rules.specs.declared.parts.Part.TheVariants as parts
use Rattle.cw_rules.specs.declared.tokens.Mode.TheVariants as modes
use Rattle.cw_rules.specs.declared.tokens.TokKind.TheVariants as kind

-- ## Levels

token-none : (k : TokKind) → after_token k [] ≡ None
token-none k = grind arith

begin-none : (k : TokKind) → after_begin k [] ≡ None
begin-none k = grind arith

-- inside inner C text of TeX text the levels are those of C text
one-same : (a : Answer) (ls ms : List Level) → levels_after a ls ≡ Some ms → tex_levels_after a ls ≡ Some ms
one-same a ls ms h = grind (arith, token-none, begin-none)

first-levels : (a : Answer) (xs : List Answer) (ls ms : List Level) (o : Option (List Level)) → levels_after a ls ≡ o
    → all_levels_after (a ∷ xs) ls ≡ Some ms → (l : List Level)
    × ((levels_after a ls ≡ Some l) × (all_levels_after xs l ≡ Some ms))
first-levels a xs ls ms o e h = grind arith

tex-step : (a : Answer) (xs : List Answer) (ls next : List Level) → tex_levels_after a ls ≡ Some next
    → all_tex_levels_after (a ∷ xs) ls ≡ all_tex_levels_after xs next
tex-step a xs ls next e = grind arith

all-same : (xs : List Answer) (ls ms : List Level) → all_levels_after xs ls ≡ Some ms → all_tex_levels_after xs ls
    ≡ Some ms
all-same [] ls ms h = h
all-same (a ∷ xs) ls ms h =
    let f = first-levels a xs ls ms (levels_after a ls) refl h in
    tex-step a xs ls f.0 (one-same a ls f.0 f.1.0) ∙ all-same xs f.0 ms f.1.1

tex-append : (xs ys : List Answer) (ls ms : List Level) → all_tex_levels_after xs ls ≡ Some ms
    → all_tex_levels_after (xs ++ ys) ls ≡ all_tex_levels_after ys ms
tex-append [] ys ls ms h = ap (all_tex_levels_after ys) (let e : ls ≡ ms = cc in e)
tex-append (a ∷ xs) ys ls ms h = go (tex_levels_after a ls) refl (λ next. tex-append xs ys next ms)
  where
    go : (o : Option (List Level)) → tex_levels_after a ls ≡ o
        → ((next : List Level) → all_tex_levels_after xs next ≡ Some ms → all_tex_levels_after (xs ++ ys) next
        ≡ all_tex_levels_after ys ms) → all_tex_levels_after (a ∷ xs ++ ys) ls ≡ all_tex_levels_after ys ms
    go o e rec = grind (arith, nat_tests, tex-step)

notes-tex : (ns : List NoteAt) (ls : List Level) → all_tex_levels_after (note_answers ns) ls ≡ Some ls
notes-tex [] ls = refl
notes-tex (n ∷ ns) ls = notes-tex ns ls

-- ## What begins at a place

-- TeX text, a name that heads a C part, and inner C text
abbrev stands : Part → List Opened → Bool
stands parts.TexInner cs = nested_in cs
stands parts.Tex [] = true
stands parts.Head [] = true
stands _ cs = false

abbrev tex_levels : Part → List Opened → List Level
tex_levels parts.TexInner cs = levels_in cs
tex_levels _ cs = []

record TexGoes (ls : List Level) (f : ScanStep) : Type 0 where
  stays : stands f.next.part f.next.comments ≡ true
  levels : all_tex_levels_after f.answers ls ≡ Some (tex_levels f.next.part f.next.comments)

record Unless (ls : List Level) (f : ScanStep) : Type 0 where
  goes : begins_part_in f.answers ≡ false → TexGoes ls f

inner-stands : (p : Part) (cs : List Opened) → in_tex p ≡ true → stands p cs ≡ nested_in cs
inner-stands p cs h = grind arith

inner-levels : (p : Part) (cs : List Opened) → in_tex p ≡ true → levels_in cs ≡ tex_levels p cs
inner-levels p cs h = grind arith

inner-goes : (ls : List Level) (f : ScanStep) → Goes true ls f → Unless ls f
inner-goes ls f g = grind (arith, inner-stands, all-same, levels_in, inner-levels)

token-goes : (hash_line : Bool) (next : Where) (place : ℕ) (bytes : List ℕ) (cut : Cut) → stands next.part next.comments
    ≡ true → tex_levels next.part next.comments ≡ [] → Unless [] (one hash_line next place bytes cut)
token-goes hash_line next place bytes cut s l = grind (arith, notes-tex)

part-begins : (hash_line : Bool) (next : Where) (place : ℕ) (bytes : List ℕ) (cut : Cut) (ls : List Level)
    → is_part_kind cut.kind ≡ true → Unless ls (one hash_line next place bytes cut)
part-begins hash_line next place bytes cut ls k = grind (arith, or-first)

abbrev is_kept : Effect → Bool
is_kept effects.Stands = true
is_kept (effects.Drops note) = true
is_kept _ = false

code-begins : (c : Code) → is_kept (effect_in_tex c) ≡ false → is_part_kind (kind.Code c) ≡ true
code-begins c h = grind arith

code-goes : (effect : Effect) (c : Code) (place : ℕ) (bytes : List ℕ) → (is_kept effect ≡ false → is_part_kind
    (kind.Code c) ≡ true) → Unless [] (tex_by effect c (record { part = parts.Tex; comments = [] }) place bytes)
code-goes effects.Stands c place bytes k =
    let w : Where = record { part = parts.Tex; comments = [] } in
    if-both (λ (next : Where). Unless [] (one false next place bytes (code_token c place bytes)))
    (is_name c && is_head place bytes) (moved w parts.Head) w (λ e. token-goes false (moved w parts.Head) place bytes
    (code_token c place bytes) refl refl) (λ e. token-goes false w place bytes (code_token c place bytes) refl refl)
code-goes (effects.Drops note) c place bytes k = token-goes false (record { part = parts.Tex; comments = [] }) place
    bytes (dropped_code note c place bytes) refl refl
code-goes effects.Defines c place bytes k = grind (arith, part-begins)
code-goes effects.Formats c place bytes k = grind (arith, part-begins)
code-goes effects.BeginsC c place bytes k = grind (arith, part-begins)

tex-goes : (place byte : ℕ) (bytes : List ℕ) → Unless [] (tex_text (record { part = parts.Tex; comments = [] }) place
    byte bytes)
tex-goes place byte bytes = grind (
  arith,
  code-goes (effect_in_tex (code_at bytes)) (code_at bytes) place (byte ∷ bytes) (code-begins (code_at bytes)),
)

head-goes : (place byte : ℕ) (bytes : List ℕ) → Unless [] (head_text (record { part = parts.Head; comments = [] }) place
    byte bytes)
head-goes place byte bytes = grind (arith, if-both, part-begins)

text-goes : (part : Part) (cs : List Opened) (fresh : Bool) (last place byte : ℕ) (bytes : List ℕ)
    → (byte == at_sign && begins_section bytes) ≡ false → stands part cs ≡ true
    → Unless (tex_levels part cs) (in_text_apart part cs fresh last place byte bytes)
text-goes parts.TexInner [] fresh last place byte bytes section s =
    let w : Where = record { part = parts.TexInner; comments = [] } in
    rule-goes (Unless (InCode ∷ [])) w fresh last place byte bytes section refl refl (λ f g. inner-goes (InCode ∷ []) f
    g) (λ e. record { goes = λ h. record { stays = refl; levels = refl } }) _ (code-rule w fresh last place byte bytes)
text-goes parts.TexInner (c ∷ cs) fresh last place byte bytes section s =
    inner-goes (levels_in (c ∷ cs)) (in_text_apart parts.TexInner (c ∷ cs) fresh last place byte bytes)
    (open-goes parts.TexInner c cs fresh last place byte bytes section refl s)
text-goes parts.Tex [] fresh last place byte bytes section s = tex-goes place byte bytes
text-goes parts.Head [] fresh last place byte bytes section s = head-goes place byte bytes
text-goes _ _ fresh last place byte bytes section s = absurd cc

-- ## All answers

any-split : (xs ys : List Answer) → begins_part_in (xs ++ ys) ≡ false → (begins_part_in xs ≡ false)
    × (begins_part_in ys ≡ false)
any-split [] ys h = (refl, h)
any-split (x ∷ xs) ys h =
    grind (arith, any-split xs ys (or-second (is_part_answer x) (begins_part_in (xs ++ ys)) h), or-second, or-first)

section-part : (k : TokKind) → is_section_kind k ≡ true → is_part_kind k ≡ true
section-part k h = grind arith

section-begins : (w : Where) (place : ℕ) (bytes : List ℕ) (ls : List Level) → Unless ls (section w place bytes)
section-begins w place bytes ls = grind (arith, any-split, or-first, section-part, section-kind)

found-goes : (w : Where) (fresh : Bool) (last place byte : ℕ) (bytes : List ℕ) → stands w.part w.comments ≡ true
    → Unless (tex_levels w.part w.comments) (found_apart w fresh last place byte bytes)
found-goes w fresh last place byte bytes s = if-both (Unless (tex_levels w.part w.comments))
    (byte == at_sign && begins_section bytes) _ _ (λ e. section-begins w place bytes (tex_levels w.part w.comments))
    (λ e. text-goes w.part w.comments fresh last place byte bytes e s)

cut-levels : (cs : List Opened) (place about : ℕ) → nested_in cs ≡ true
    → all_tex_levels_after (all_cut parts.TexInner cs place about) (levels_in cs) ≡ Some []
cut-levels [] place about n = refl
cut-levels (c ∷ cs) place about n = tex-append (inner_or_none c.inner false place about) (comment_cut false c place
    about ++ all_cut parts.TexInner cs place about) (levels_in (c ∷ cs)) (InComment ∷ levels_in cs) (all-same
    (inner_or_none c.inner false place about) (levels_in (c ∷ cs)) (InComment ∷ levels_in cs) (open-levels c.inner false
    place about (levels_in cs))) ∙ tex-append (comment_cut false c place about) (all_cut parts.TexInner cs place about)
    (InComment ∷ levels_in cs) (levels_in cs) (all-same (comment_cut false c place about) (InComment ∷ levels_in cs)
    (levels_in cs) (cut-one false c place about cs n)) ∙ cut-levels cs place about (inner-nested cs n)

all-cut : (part : Part) (cs : List Opened) (place about : ℕ) → stands part cs ≡ true
    → all_tex_levels_after (all_cut part cs place about) (tex_levels part cs) ≡ Some []
all-cut part cs place about s = grind (arith, cut-levels)

answers-nest : (bytes : List ℕ) (w : Where) (fresh : Bool) (last place taken : ℕ) → stands w.part w.comments ≡ true
    → begins_part_in (answers bytes w fresh last place taken) ≡ false
    → all_tex_levels_after (answers bytes w fresh last place taken) (tex_levels w.part w.comments) ≡ Some []
answers-nest [] w fresh last place taken s h = all-cut w.part w.comments place (place - 1) s
answers-nest (byte ∷ bytes) w fresh last place zero s h =
    let f = found_apart w fresh last place byte bytes in
    let behind = answers bytes f.next (still_fresh fresh byte) byte (place + 1) f.more in
    let split = any-split f.answers behind h in
    let g = (found-goes w fresh last place byte bytes s).goes split.0 in
    tex-append f.answers behind (tex_levels w.part w.comments) (tex_levels f.next.part f.next.comments) g.levels
    ∙ answers-nest bytes f.next (still_fresh fresh byte) byte (place + 1) f.more g.stays split.1
answers-nest (byte ∷ bytes) w fresh last place (suc taken) s h =
    answers-nest bytes w (still_fresh fresh byte) byte (place + 1) taken s h

pub tex-texts-nested : (text : List ℕ) (start end : ℕ) → begins_part_in (tokens_of text start end modes.TexText) ≡ false
    → IsTexNested (tokens_of text start end modes.TexText)
tex-texts-nested text first end h = grind (arith, answers-nest)
