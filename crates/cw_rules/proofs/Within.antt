-- What begins at a byte lies in the bytes that are left.
use Rattle.std.proofs.Common.{◌≡◌, ℕ, suc, ◌+◌, ◌<◌, ◌≤◌, Bool, true, false, ◌&&◌, ◌||◌, not, ◌==◌, List, [], ◌∷◌, ◌++◌}
use Rattle.std.proofs.Common.{length, sym, ap, ◌∙◌, arith, Option, codes, if◌then◌else◌}
use Rattle.std.proofs.{lemmas.Bool.Decides.nat_tests, lemmas.Grind.common_steps}
use Rattle.std.specs.Option.{option_map_or}
use Rattle.cw_base.proofs.TestLaws.{both-right}
use Rattle.cw_base.specs.{declared.notes.NoteKind.NoteKind, Bytes.newline, Text.bar}
use Rattle.cw_base.specs.declared.notes.NoteKind.TheVariants.{UnknownCode, MissingBrace, ImproperMacro, ImproperFormat}
use Rattle.cw_rules.specs.declared.{bodies.NoteAt.NoteAt, codes.Code.Code, codes.Effect.Effect, parts.Part.Part}
use Rattle.cw_rules.specs.declared.{parts.Opened.Opened, parts.Start.Start, signs.Sign.Sign}
use Rattle.cw_rules.specs.Bytes.{hash, star, comma, slash, less, right_paren, at_sign, is_in, is_letter, begins}
use Rattle.cw_rules.specs.{Bytes.begins_with, Prefixes.prefix_size, Order.AreWithin, model.Apart.found_apart}
use Rattle.cw_rules.specs.Signs.{all_signs, longest, spelling}
use Rattle.cw_rules.proofs.{StringPrefixes.prefix-below, Sizes.section_code-le}
use Rattle.cw_rules.specs.Codes.{code_at, begins_section, effect_in_limbo, effect_in_tex}
use Rattle.cw_rules.specs.Bodies.{extent, noted, one_note, note_unless}
use Rattle.cw_rules.specs.Answers.{Answer, Note, Where, Cut, ScanStep, before, note_answers}
use Rattle.cw_rules.specs.Tokens.{in_hash_line, behind_include, takes_hash_line, is_space, is_deep, ends_at_bar}
use Rattle.cw_rules.specs.Tokens.{closes_on_line, moved, one, skipped_byte, comment_end, inner_cut, part_cut, all_cut}
use Rattle.cw_rules.specs.Tokens.{section, passed, line_end, start_of, effect_in, code_by, in_code, string, code_token}
use Rattle.cw_rules.specs.Tokens.{dropped_code, include_name, piece_start, piece, comment_closed, limbo_by, limbo_text}
use Rattle.cw_rules.specs.Tokens.{tex_by, tex_text, head_text, behind_white, name_follows, macro_name, is_parameter}
use Rattle.cw_rules.specs.Tokens.{parameter_follows, parameter, format_name}
use Rattle.cw_rules.specs.model.Apart.{code_text_apart, comment_text_apart, behind_head_apart, part_text_apart}
use Rattle.cw_rules.specs.model.Apart.{in_text_apart}
use Rattle.cw_rules.proofs.Sizes.{begins-some, begins_with-le, run-le, constant-le, AllFit, longest-fits, extent-le}
use Rattle.cw_rules.proofs.Sizes.{identifier-le, string-le, include_name-le, control_or_plain-le, code_token-le}
use Rattle.cw_rules.specs.declared.classes.Class.TheVariants as classes
use Rattle.cw_rules.specs.declared.codes.Code.TheVariants as at
use Rattle.cw_rules.specs.declared.codes.Effect.TheVariants as effects
use Rattle.cw_rules.specs.declared.parts.Part.TheVariants as parts
use Rattle.cw_rules.specs.declared.parts.Start.TheVariants as start
use Rattle.cw_rules.specs.declared.tokens.Directive.TheVariants as directives
use Rattle.cw_rules.specs.declared.tokens.TokKind.TheVariants as kinds

-- What is found at a place fits in so many bytes.
pub record Fits (place left : ℕ) (f : ScanStep) : Type 0 where
  pub within : AreWithin place (place + left) f.answers
  pub more : f.more < left

notes-within : (low high : ℕ) (notes : List NoteAt) → AreWithin low high (note_answers notes)
notes-within low high [] = tt
notes-within low high (n ∷ notes) = notes-within low high notes

pub append-within : (low high : ℕ) (xs ys : List Answer) → AreWithin low high xs → AreWithin low high ys
    → AreWithin low high (xs ++ ys)
append-within low high [] ys h g = g
append-within low high (Note kind place ∷ xs) ys h g = append-within low high xs ys h g
append-within low high (_ ∷ xs) ys h g = (h.0, append-within low high xs ys h.1 g)

pub wider : (low high first last : ℕ) (xs : List Answer) → first ≤ low → high ≤ last → AreWithin low high xs
    → AreWithin first last xs
wider low high first last [] l h g = tt
wider low high first last (Note kind place ∷ xs) l h g = wider low high first last xs l h g
wider low high first last (_ ∷ xs) l h g = grind (arith, nat_tests, wider low high first last xs l h g.1)

either : (place left : ℕ) (t : Bool) (f g : ScanStep) → (t ≡ true → Fits place left f) → (t ≡ false → Fits place left g)
    → Fits place left (if t then f else g)
either place left t f g h i = grind arith

one-fits : (hash_line : Bool) (next : Where) (place : ℕ) (bytes : List ℕ) (cut : Cut) (left : ℕ) → cut.size ≤ left
    → 0 < left → Fits place left (one hash_line next place bytes cut)
one-fits hash_line next place bytes cut left h some =
    grind (arith, nat_tests, common_steps, notes-within place (place + left) cut.notes, notes-within)

before-fits : (place left : ℕ) (xs : List Answer) (f : ScanStep) → AreWithin place (place + left) xs → Fits place left f
    → Fits place left (before xs f)
before-fits place left xs f h g = grind (arith, nat_tests, append-within)

skipped-fits : (place left : ℕ) (w : Where) → 0 < left → Fits place left (skipped_byte w)
skipped-fits place left w some = record { within = tt; more = some }

-- ## Ends

missing-within : (low high : ℕ) (c : Opened) (about : ℕ)
    → AreWithin low high (note_answers (one_note (note_unless (c.braces == 0) MissingBrace about)))
missing-within low high c about = notes-within low high (one_note (note_unless (c.braces == 0) MissingBrace about))

comment_end-within : (hash_line : Bool) (c : Opened) (place size : ℕ) (bytes : List ℕ) (left : ℕ) → size ≤ left
    → AreWithin place (place + left) (comment_end hash_line c place size bytes)
comment_end-within hash_line c place size bytes left h = grind (arith, nat_tests, missing-within)

inner_cut-within : (hash_line : Bool) (place about left : ℕ)
    → AreWithin place (place + left) (inner_cut hash_line place about)
inner_cut-within hash_line place about left = ((omega arith, omega arith, omega arith), tt)

part_cut-within : (part : Part) (place about left : ℕ) → AreWithin place (place + left) (part_cut part place about)
part_cut-within part place about left = grind (arith, inner_cut-within)

pub all_cut-within : (part : Part) (comments : List Opened) (place about left : ℕ)
    → AreWithin place (place + left) (all_cut part comments place about)
all_cut-within part [] place about left = part_cut-within part place about left
all_cut-within part (c ∷ comments) place about left =
    grind (arith, nat_tests, all_cut-within part comments place about left)

section-fits : (w : Where) (place : ℕ) (bytes : List ℕ) → Fits place (suc (length bytes)) (section w place bytes)
section-fits w place bytes = before-fits place (suc (length bytes)) (all_cut w.part w.comments place place) _
    (all_cut-within w.part w.comments place place (suc (length bytes)))
    (one-fits false (record { part = parts.Tex; comments = [] }) place (at_sign ∷ bytes) _ (suc (length bytes))
    (section_code-le at_sign bytes) (omega arith))

line_end-fits : (part : Part) (comments : List Opened) (last place left : ℕ) → 0 < left
    → Fits place left (line_end part comments last place)
line_end-fits part [] last place left some = grind (arith, nat_tests, either, one-fits, skipped-fits)
line_end-fits part (c ∷ comments) last place left some =
    grind (arith, line_end-fits (passed part) comments last place left some, nat_tests, skipped-fits)

-- ## C text

abbrev StartFits : Start → List ℕ → Type 0
StartFits start.Identifier bytes = Unit {0}
StartFits start.Constant bytes = Unit {0}
StartFits (start.Quoted quote) bytes = Unit {0}
StartFits start.LongComment bytes = 0 < length bytes
StartFits start.ShortComment bytes = 0 < length bytes
StartFits (start.Code code) bytes = code ≡ code_at bytes
StartFits start.EndOfInner bytes = Unit {0}
StartFits (start.Sign sign) bytes = length (spelling sign) ≤ suc (length bytes)
StartFits start.OtherByte bytes = Unit {0}

either-start : (t : Bool) (a b : Start) (bytes : List ℕ) → (t ≡ true → StartFits a bytes)
    → (t ≡ false → StartFits b bytes) → StartFits (if t then a else b) bytes
either-start t a b bytes f g = grind arith

sign-fits : (byte : ℕ) (bytes : List ℕ) → StartFits (option_map_or start.Sign (longest all_signs (byte ∷ bytes))
    start.OtherByte) bytes
sign-fits byte bytes = by (longest all_signs (byte ∷ bytes)) (longest-fits all_signs (byte ∷ bytes))
  where
    by : (s : Option Sign) → AllFit s (suc (length bytes))
        → StartFits (option_map_or start.Sign s start.OtherByte) bytes
    by s h = grind (arith, nat_tests)

start_of-fits : (bar_ends : Bool) (byte : ℕ) (bytes : List ℕ) → StartFits (start_of bar_ends byte bytes) bytes
start_of-fits bar_ends byte bytes = grind (arith, either-start, begins-some, both-right, sign-fits)

effect-unknown : (part : Part) (comments : List Opened) → effect_in part comments at.Unknown ≡ effects.Drops UnknownCode
effect-unknown part comments = grind arith

code_by-fits : (effect : Effect) (code : Code) (w : Where) (place byte next : ℕ) (bytes : List ℕ)
    → Fits place (suc (suc (length bytes))) (code_by effect code w place (byte ∷ next ∷ bytes))
code_by-fits effects.Stands code w place byte next bytes = one-fits _ _ place (byte ∷ next ∷ bytes) (code_token code
    place (byte ∷ next ∷ bytes)) (suc (suc (length bytes))) (code_token-le code place byte next bytes) (omega arith)
code_by-fits (effects.Drops note) code w place byte next bytes =
    one-fits _ _ place (byte ∷ next ∷ bytes) (dropped_code note code place (byte ∷ next ∷ bytes))
    (suc (suc (length bytes))) (control_or_plain-le code place byte next bytes) (omega arith)
code_by-fits _ _ _ _ _ _ _ = search (one-fits, arith)

-- a code, which may be the last byte
code-fits : (part : Part) (comments : List Opened) (code : Code) (place byte : ℕ) (bytes : List ℕ)
    → code ≡ code_at bytes → Fits place (suc (length bytes))
    (code_by (effect_in part comments code) code (record { part = part; comments = comments }) place (byte ∷ bytes))
code-fits part comments code place byte bytes e = grind (arith, nat_tests, code_by-fits, effect-unknown, one-fits)

in_code-fits : (begins : Start) (w : Where) (place byte : ℕ) (bytes : List ℕ) → StartFits begins bytes
    → Fits place (suc (length bytes)) (in_code begins w place (byte ∷ bytes))
in_code-fits start.Identifier w place byte bytes h = search (one-fits, arith, identifier-le (byte ∷ bytes))
in_code-fits start.Constant w place byte bytes h = search (one-fits, arith, constant-le (byte ∷ bytes))
in_code-fits (start.Quoted quote) w place byte bytes h =
    let opening = prefix_size (byte ∷ bytes) + 1 in
    one-fits _ _ place (byte ∷ bytes) (string kinds.Quoted opening quote place (byte ∷ bytes)) (suc (length bytes))
    (string-le kinds.Quoted opening quote place (byte ∷ bytes) (omega (arith, prefix-below byte bytes))) (omega arith)
in_code-fits start.LongComment w place byte bytes h = grind arith
in_code-fits start.ShortComment w place byte bytes h = grind arith
in_code-fits (start.Code code) w place byte bytes h = code-fits w.part w.comments code place byte bytes h
in_code-fits start.EndOfInner w place byte bytes h = grind arith
in_code-fits (start.Sign sign) w place byte bytes h = search (one-fits, arith, h)
in_code-fits start.OtherByte w place byte bytes h = search (one-fits, arith)

code_text-fits : (w : Where) (fresh : Bool) (last place byte : ℕ) (bytes : List ℕ)
    → Fits place (suc (length bytes)) (code_text_apart w fresh last place byte bytes)
code_text-fits w fresh last place byte bytes =
    let left = suc (length bytes) in
    either place left (byte == newline) _ _ (λ h. line_end-fits w.part w.comments last place left (omega arith))
    (λ h. either place left (is_space w.part byte bytes) _ _ (λ h. skipped-fits place left w (omega arith)) (λ h. either
    place left (byte == hash && (takes_hash_line w.part w.comments && fresh)) _ _ (λ h. search (one-fits, arith))
    (λ h. either place left (byte == less && (behind_include w.part && closes_on_line bytes)) _ _
    (λ h. one-fits _ _ place (byte ∷ bytes) (include_name place (byte ∷ bytes)) left (include_name-le place byte bytes
    (both-right (behind_include w.part) (closes_on_line bytes) (both-right (byte == less) (behind_include w.part &&
    closes_on_line bytes) h))) (omega arith)) (λ h. in_code-fits (start_of (ends_at_bar w.part w.comments) byte bytes) w
    place byte bytes (start_of-fits (ends_at_bar w.part w.comments) byte bytes)))))

-- ## Comments

piece-fits : (part : Part) (comments : List Opened) (c : Opened) (place byte : ℕ) (bytes : List ℕ)
    → Fits place (suc (length bytes)) (piece part comments c place (byte ∷ bytes))
piece-fits part comments c place byte bytes =
    let i = piece_start part comments c place in
    one-fits _ _ place (byte ∷ bytes) (record {
      kind = kinds.Text;
      directive = directives.No;
      size = (extent i (byte ∷ bytes)).size;
      notes = noted i (byte ∷ bytes);
    }) (suc (length bytes)) (extent-le i (byte ∷ bytes)) (omega arith)

comment_text-fits : (part : Part) (c : Opened) (comments : List Opened) (last place byte : ℕ) (bytes : List ℕ)
    → Fits place (suc (length bytes)) (comment_text_apart part c comments last place byte bytes)
comment_text-fits part c comments last place byte bytes =
    let left = suc (length bytes) in
    let hash_line = in_hash_line part in
    either place left (c.long && (byte == star && begins slash bytes)) _ _ (λ h. closed (begins-some slash bytes
    (both-right (byte == star) (begins slash bytes) (both-right c.long (byte == star && begins slash bytes) h))))
    (λ h. either place left (not c.long && byte == newline) _ _
    (λ h. before-fits place left (comment_end hash_line c place 0 []) (line_end part comments last place)
    (comment_end-within hash_line c place 0 [] left (omega arith)) (line_end-fits part comments last place left
    (omega arith))) (λ h. either place left (byte == bar && not (is_deep part (c ∷ comments))) _ _
    (λ h. record { within = ((omega arith, omega arith, omega arith), tt); more = omega arith })
    (λ h. piece-fits part comments c place byte bytes)))
  where
    closed : 0 < length bytes → Fits place (suc (length bytes)) (comment_closed part c comments place (byte ∷ bytes))
    closed some = grind (arith, nat_tests, comment_end-within)

-- ## Limbo, TeX text and heads

limbo-code-fits : (w : Where) (place byte : ℕ) (bytes : List ℕ) → Fits place (suc (length bytes))
    (limbo_by (effect_in_limbo (code_at bytes)) (code_at bytes) w place (byte ∷ bytes))
limbo-code-fits w place byte [] = search (one-fits, arith)
limbo-code-fits w place byte (next ∷ bytes) = by (effect_in_limbo (code_at (next ∷ bytes))) (code_at (next ∷ bytes))
  where
    by : (effect : Effect) (code : Code) → Fits place (suc (suc (length bytes)))
        (limbo_by effect code w place (byte ∷ next ∷ bytes))
    by effects.Stands code = one-fits _ _ place (byte ∷ next ∷ bytes) (code_token code place (byte ∷ next ∷ bytes))
        (suc (suc (length bytes))) (code_token-le code place byte next bytes) (omega arith)
    by effects.Formats code = search (one-fits, arith)
    by (effects.Drops note) code = search (one-fits, arith)
    by effects.Defines code = skipped-fits place (suc (suc (length bytes))) w (omega arith)
    by effects.BeginsC code = skipped-fits place (suc (suc (length bytes))) w (omega arith)

limbo_text-fits : (w : Where) (place byte : ℕ) (bytes : List ℕ)
    → Fits place (suc (length bytes)) (limbo_text w place byte bytes)
limbo_text-fits w place byte bytes = grind (arith, nat_tests, either, limbo-code-fits, one-fits, run-le)

tex-code-fits : (w : Where) (place byte : ℕ) (bytes : List ℕ)
    → Fits place (suc (length bytes)) (tex_by (effect_in_tex (code_at bytes)) (code_at bytes) w place (byte ∷ bytes))
tex-code-fits w place byte [] = search (one-fits, arith)
tex-code-fits w place byte (next ∷ bytes) = by (effect_in_tex (code_at (next ∷ bytes))) (code_at (next ∷ bytes))
  where
    by : (effect : Effect) (code : Code) → Fits place (suc (suc (length bytes)))
        (tex_by effect code w place (byte ∷ next ∷ bytes))
    by effects.Stands code = one-fits _ _ place (byte ∷ next ∷ bytes) (code_token code place (byte ∷ next ∷ bytes))
        (suc (suc (length bytes))) (code_token-le code place byte next bytes) (omega arith)
    by (effects.Drops note) code = one-fits _ _ place (byte ∷ next ∷ bytes) (dropped_code note code place
        (byte ∷ next ∷ bytes)) (suc (suc (length bytes))) (control_or_plain-le code place byte next bytes) (omega arith)
    by effects.Formats code = search (one-fits, arith)
    by effects.Defines code = search (one-fits, arith)
    by effects.BeginsC code = search (one-fits, arith)

tex_text-fits : (w : Where) (place byte : ℕ) (bytes : List ℕ)
    → Fits place (suc (length bytes)) (tex_text w place byte bytes)
tex_text-fits w place byte bytes = grind (arith, nat_tests, either, tex-code-fits, one-fits, run-le)

head_text-fits : (w : Where) (place byte : ℕ) (bytes : List ℕ)
    → Fits place (suc (length bytes)) (head_text w place byte bytes)
head_text-fits w place byte bytes = grind (arith, nat_tests, either, skipped-fits, one-fits, begins-some)

macro_name-fits : (code : ℕ) (w : Where) (place byte : ℕ) (bytes : List ℕ)
    → Fits place (suc (length bytes)) (macro_name code w place byte bytes)
macro_name-fits code w place byte bytes =
    let left = suc (length bytes) in
    either place left (is_in classes.White byte) _ _ (λ h. skipped-fits place left w (omega arith))
    (λ h. search (one-fits, arith, identifier-le (byte ∷ bytes)))

format_name-fits : (code : ℕ) (second limbo : Bool) (w : Where) (place byte : ℕ) (bytes : List ℕ)
    → Fits place (suc (length bytes)) (format_name code second limbo w place byte bytes)
format_name-fits code second limbo w place byte bytes =
    grind (arith, nat_tests, either, skipped-fits, one-fits, identifier-le)

-- where a parameter follows and none of the others stands, it is `...`
dots-follow : (letter : Bool) (is_comma is_paren dots : Bool) → (letter || (is_comma || (is_paren || dots))) ≡ true
    → letter ≡ false → is_comma ≡ false → is_paren ≡ false → dots ≡ true
dots-follow letter is_comma is_paren dots h l c p = cc

not-white : (byte : ℕ) (bytes : List ℕ) → is_in classes.White byte ≡ false → behind_white (byte ∷ bytes) ≡ byte ∷ bytes
not-white byte bytes h = grind (arith, nat_tests)

parameter-fits : (w : Where) (place byte : ℕ) (bytes : List ℕ) → parameter_follows (byte ∷ bytes) ≡ true
    → Fits place (suc (length bytes)) (parameter w place byte bytes)
parameter-fits w place byte bytes follows =
    let left = suc (length bytes) in
    either place left (is_in classes.White byte) _ _ (λ h. skipped-fits place left w (omega arith))
    (λ white. either place left (is_letter byte) _ _ (λ h. search (one-fits, arith, identifier-le (byte ∷ bytes)))
    (λ l. either place left (byte == comma) _ _ (λ h. search (one-fits, arith))
    (λ c. either place left (byte == right_paren) _ _ (λ h. search (one-fits, arith)) (λ p. search (
      one-fits,
      arith,
      begins_with-le (codes "...") (byte ∷ bytes)
          (dots-follow (is_letter byte) (byte == comma) (byte == right_paren) (begins_with (codes "...") (byte ∷ bytes))
          (ap is_parameter (sym (not-white byte bytes white)) ∙ follows) l c p),
    )))))

behind_head-fits : (limbo : Bool) (w : Where) (fresh : Bool) (last place byte : ℕ) (bytes : List ℕ)
    → Fits place (suc (length bytes)) (behind_head_apart limbo w fresh last place byte bytes)
behind_head-fits true w fresh last place byte bytes = limbo_text-fits (moved w parts.Limbo) place byte bytes
behind_head-fits false w fresh last place byte bytes = code_text-fits (moved w parts.Definition) fresh last place byte
    bytes

improper-fits : (note : NoteKind) (code : ℕ) (limbo : Bool) (w : Where) (fresh : Bool) (last place byte : ℕ)
    (bytes : List ℕ) → Fits place (suc (length bytes))
    (before (Note note code ∷ []) (behind_head_apart limbo w fresh last place byte bytes))
improper-fits note code limbo w fresh last place byte bytes = grind (arith, nat_tests, before-fits, behind_head-fits)

-- ## Any text

part_text-fits : (part : Part) (w : Where) (fresh : Bool) (last place byte : ℕ) (bytes : List ℕ)
    → Fits place (suc (length bytes)) (part_text_apart part w fresh last place byte bytes)
part_text-fits parts.Limbo w fresh last place byte bytes = limbo_text-fits w place byte bytes
part_text-fits parts.Tex w fresh last place byte bytes = tex_text-fits w place byte bytes
part_text-fits parts.Head w fresh last place byte bytes = head_text-fits w place byte bytes
part_text-fits (parts.MacroName code) w fresh last place byte bytes =
    either place (suc (length bytes)) (name_follows (byte ∷ bytes)) _ _ (λ h. macro_name-fits code w place byte bytes)
    (λ h. improper-fits ImproperMacro code false w fresh last place byte bytes)
part_text-fits (parts.MacroParen code) w fresh last place byte bytes = search (one-fits, arith)
part_text-fits (parts.Parameters code) w fresh last place byte bytes =
    either place (suc (length bytes)) (parameter_follows (byte ∷ bytes)) _ _ (λ h. parameter-fits w place byte bytes h)
    (λ h. improper-fits ImproperMacro code false w fresh last place byte bytes)
part_text-fits (parts.FormatName code second limbo) w fresh last place byte bytes =
    either place (suc (length bytes)) (name_follows (byte ∷ bytes)) _ _ (λ h. format_name-fits code second limbo w place
    byte bytes) (λ h. improper-fits ImproperFormat code limbo w fresh last place byte bytes)
part_text-fits _ w fresh last place byte bytes = code_text-fits w fresh last place byte bytes

in_text-fits : (part : Part) (comments : List Opened) (fresh : Bool) (last place byte : ℕ) (bytes : List ℕ)
    → Fits place (suc (length bytes)) (in_text_apart part comments fresh last place byte bytes)
in_text-fits part comments fresh last place byte bytes =
    grind (arith, part_text-fits, either, code_text-fits, comment_text-fits)

pub found-fits : (w : Where) (fresh : Bool) (last place byte : ℕ) (bytes : List ℕ)
    → Fits place (suc (length bytes)) (found_apart w fresh last place byte bytes)
found-fits w fresh last place byte bytes = either place (suc (length bytes)) (byte == at_sign && begins_section bytes) _
    _ (λ h. section-fits w place bytes) (λ h. in_text-fits w.part w.comments fresh last place byte bytes)
