-- What begins at a place of a text tells the code with which a part of a section begins there.
use Rattle.std.proofs.Common.{arith, ◌≡◌, ℕ, Bool, true, false, ◌&&◌, not, ◌==◌, List, [], ◌∷◌, ◌++◌, refl, sym, ◌∙◌}
use Rattle.std.proofs.Common.{append_assoc, length, ap}
use Rattle.std.proofs.{lemmas.Bool.eqb-true, lemmas.Bool.Decides.nat_tests}
use Rattle.cw_rules.specs.declared.{bodies.NoteAt.NoteAt, codes.Code.Code, codes.Effect.Effect, parts.Part.Part}
use Rattle.cw_rules.specs.declared.{parts.Opened.Opened, signs.Sign.Sign, tokens.TokKind.TokKind}
use Rattle.cw_rules.specs.Answers.{dropped, has_sign, is_head_sign, Answer, Token, Begin, Finish, Note, Where, Cut}
use Rattle.cw_rules.specs.Answers.{ScanStep, before, note_answers, plain}
use Rattle.cw_base.specs.Bytes.{newline, backslash}
use Rattle.cw_rules.specs.{Bytes.at_sign, Bytes.run, Codes.code_at, Tokens.dropped_code, model.Apart.in_text_apart}
use Rattle.cw_rules.specs.{Signs.spelling, Bodies.one_note, Bodies.note_unless}
use Rattle.cw_rules.specs.Tokens.{is_head_part, one, skipped_byte, passed, moved, in_hash_line, line_end, comment_end}
use Rattle.cw_rules.specs.Tokens.{inner_cut, behind_inner, code_token, alone_size, behind_word, is_include, identifier}
use Rattle.cw_rules.specs.Tokens.{word, directive_at}
use Rattle.cw_rules.proofs.Choices.{if-both}
use Rattle.cw_base.specs.declared.notes.NoteKind.TheVariants as notes
use Rattle.cw_rules.specs.declared.classes.Class.TheVariants as classes
use Rattle.cw_rules.specs.declared.codes.Code.TheVariants as at
use Rattle.cw_rules.specs.declared.parts.Behind.TheVariants as behinds
use Rattle.cw_rules.specs.declared.parts.Part.TheVariants as parts
use Rattle.cw_rules.specs.declared.tokens.TokKind.TheVariants as kinds
use Rattle.cw_rules.specs.declared.signs.Sign.TheVariants as signs
use Rattle.cw_rules.proofs.Rules.{IsPassed, Standing, BeginsPart, Macro, CodeRule, LineEnd, Space, HashLine, Word}
use Rattle.cw_rules.proofs.Rules.{Passed, Heading, Beginning, Comment, InnerEnd, CommentRule, Closed, EndedLine}
use Rattle.cw_rules.proofs.Rules.{LimboRule, LimboCode, LimboFormat, LimboDropped, LimboText, IsHeadWord, LastOfMacro}
use Rattle.cw_rules.proofs.Rules.{IsHeadSign, CommaStands, PartRule, OfCode, OfLimbo, TexCode, TexHeading, TexDropped}
use Rattle.cw_rules.proofs.Rules.{TexBeginning, TexInner, TexText, Blank, HeadSign, White, HeadWord, Opening}
use Rattle.cw_rules.proofs.Rules.{ParameterSign, Improper, ImproperInLimbo, within, code-rule, comment-rule, part-rule}

-- ## The code of answers

abbrev pub kind_code : TokKind → Code
kind_code (kinds.Code code) = code
kind_code kind = at.Unknown

-- the code that the first token of answers is; Unknown for any other token
abbrev pub code_in : List Answer → Code
code_in [] = at.Unknown
code_in (Token t ∷ answers) = kind_code t.kind
code_in (Begin t ∷ answers) = code_in answers
code_in (Finish t ∷ answers) = code_in answers
code_in (Note kind place ∷ answers) = code_in answers

-- the codes with which sections, definitions and C parts begin
abbrev pub is_opener : Code → Bool
is_opener at.Section = true
is_opener at.StarredSection = true
is_opener at.Define = true
is_opener at.Format = true
is_opener at.SilentFormat = true
is_opener at.Program = true
is_opener at.SectionName = true
is_opener at.FileName = true
is_opener code = false

-- the codes with which definitions begin
abbrev pub is_definition_code : Code → Bool
is_definition_code at.Define = true
is_definition_code at.Format = true
is_definition_code at.SilentFormat = true
is_definition_code code = false

-- limbo, and a format definition in it
abbrev pub is_limbo : Part → Bool
is_limbo parts.Limbo = true
is_limbo (parts.FormatName code second limbo) = limbo
is_limbo part = false

abbrev pub is_head_where : Where → Bool
is_head_where w = is_head_part w.part w.comments

-- The sign of a named C part doesn't come first, unless what follows begins with it.
abbrev pub Signless : ScanStep → Type 0
Signless f = (rest : List Answer) → (is_head_where f.next ≡ false → has_sign rest ≡ false)
    → has_sign (f.answers ++ rest) ≡ false

-- What begins at a byte: a code with which a part begins stands there, limbo isn't gone back to, and no sign of a named
-- C part comes first where none is wanted.
pub record Tells (w : Where) (byte : ℕ) (bytes : List ℕ) (f : ScanStep) : Type 0 where
  pub code : is_opener (code_in f.answers) ≡ true → (byte ≡ 64) × (code_at bytes ≡ code_in f.answers)
  pub limbo : is_limbo w.part ≡ false → is_limbo f.next.part ≡ false
  pub sign : is_head_where w ≡ false → Signless f

-- ## Single rules

one-tells : (w : Where) (byte : ℕ) (bytes : List ℕ) (hash_line : Bool) (next : Where) (place : ℕ) (shown : List ℕ)
    (cut : Cut) → (is_opener (kind_code cut.kind) ≡ true → (byte ≡ 64) × (code_at bytes ≡ kind_code cut.kind))
    → is_head_sign cut.kind ≡ false → (is_limbo w.part ≡ false → is_limbo next.part ≡ false)
    → Tells w byte bytes (one hash_line next place shown cut)
one-tells w byte bytes hash_line next place shown cut code sign limbo =
    record { code = code; limbo = limbo; sign = λ h rest k. sign }

-- a token that is no code
other-tells : (w : Where) (byte : ℕ) (bytes : List ℕ) (hash_line : Bool) (next : Where) (place : ℕ) (shown : List ℕ)
    (cut : Cut) → is_opener (kind_code cut.kind) ≡ false → is_head_sign cut.kind ≡ false
    → (is_limbo w.part ≡ false → is_limbo next.part ≡ false) → Tells w byte bytes (one hash_line next place shown cut)
other-tells w byte bytes hash_line next place shown cut other sign limbo = grind (arith, nat_tests, one-tells)

skip-tells : (w v : Where) (byte : ℕ) (bytes : List ℕ) → (is_limbo w.part ≡ false → is_limbo v.part ≡ false)
    → (is_head_where w ≡ false → is_head_where v ≡ false) → Tells w byte bytes (skipped_byte v)
skip-tells w v byte bytes limbo head = record { code = λ h. absurd cc; limbo = limbo; sign = λ h rest k. k (head h) }

same-tells : (w : Where) (byte : ℕ) (bytes : List ℕ) → Tells w byte bytes (skipped_byte w)
same-tells w byte bytes = skip-tells w w byte bytes (λ h. h) (λ h. h)

-- notes before what begins there
note-tells : (w v : Where) (byte : ℕ) (bytes : List ℕ) (n : NoteAt) (f : ScanStep)
    → (is_limbo w.part ≡ false → is_limbo v.part ≡ false) → (is_head_where w ≡ false → is_head_where v ≡ false)
    → Tells v byte bytes f → Tells w byte bytes (before (Note n.kind n.place ∷ []) f)
note-tells w v byte bytes n f limbo head t = grind (arith, nat_tests)

-- an end before what begins there
end-tells : (w v : Where) (byte : ℕ) (bytes : List ℕ) (xs : List Answer) (f : ScanStep)
    → ((ys : List Answer) → code_in (xs ++ ys) ≡ code_in ys) → ((ys : List Answer) → has_sign (xs ++ ys) ≡ false)
    → (is_limbo w.part ≡ false → is_limbo v.part ≡ false) → Tells v byte bytes f → Tells w byte bytes (before xs f)
end-tells w v byte bytes xs f code sign limbo t = grind (arith, nat_tests, append_assoc)

notes-code : (ns : List NoteAt) (ys : List Answer) → code_in (note_answers ns ++ ys) ≡ code_in ys
notes-code [] ys = refl
notes-code (n ∷ ns) ys = notes-code ns ys

-- ## Parts

passed-limbo : (p : Part) → is_limbo p ≡ false → is_limbo (passed p) ≡ false
passed-limbo p h = grind (arith, nat_tests)

word-limbo : (p : Part) (bytes : List ℕ) → is_limbo p ≡ false → is_limbo (behind_word p bytes) ≡ false
word-limbo p bytes h = if-both (λ (q : Part). is_limbo q ≡ false) (in_hash_line p && is_include bytes)
    (parts.Plain true behinds.Include) (passed p) (λ e. refl) (λ e. passed-limbo p h)

inner-limbo : (p : Part) (cs : List Opened) → is_limbo p ≡ false → is_limbo (behind_inner p cs).part ≡ false
inner-limbo p x2 h = grind (arith, nat_tests, passed-limbo)

-- ## C text

end-code : (hash_line : Bool) (c : Opened) (place size : ℕ) (bytes : List ℕ) (ys : List Answer)
    → code_in (comment_end hash_line c place size bytes ++ ys) ≡ code_in ys
end-code hash_line c place size bytes ys = grind (arith, nat_tests, notes-code)

line-tells : (part : Part) (cs : List Opened) (last place byte : ℕ) (bytes : List ℕ)
    → Tells (record { part = part; comments = cs }) byte bytes (line_end part cs last place)
line-tells part [] last place byte bytes =
    let w : Where = record { part = part; comments = [] } in
    if-both (Tells w byte bytes) (in_hash_line part && not (last == backslash)) _ _
    (λ e. other-tells w byte bytes true (record { part = parts.Plain false behinds.Other; comments = [] }) place
    (newline ∷ [])
    (plain kinds.HashLineEnd 1) refl refl (λ h. refl)) (λ e. same-tells w byte bytes)
line-tells part (c ∷ cs) last place byte bytes =
    let w : Where = record { part = part; comments = c ∷ cs } in
    let v : Where = record { part = passed part; comments = cs } in
    let xs = inner_cut (in_hash_line part) place place ++ comment_end (in_hash_line part) c place 0 [] in
    if-both (Tells w byte bytes) c.long _ _ (λ e. same-tells w byte bytes) (λ e. end-tells w v byte bytes xs
    (line_end (passed part) cs last place) (λ ys. end-code (in_hash_line part) c place 0 [] ys) (λ ys. refl)
    (passed-limbo part) (line-tells (passed part) cs last place byte bytes))

pub record KindIs (code : Code) (cut : Cut) : Type 0 where
  pub is : cut.kind ≡ kinds.Code code

pub code-kind : (c : Code) (place : ℕ) (bytes : List ℕ) → KindIs c (code_token c place bytes)
code-kind c place bytes = grind (arith, nat_tests, if-both)

-- a token that is a code
stands-tells : (w : Where) (byte : ℕ) (bytes : List ℕ) (hash_line : Bool) (next : Where) (place : ℕ) (shown : List ℕ)
    (c : Code) (cut : Cut) → byte ≡ 64 → code_at bytes ≡ c → KindIs c cut
    → (is_limbo w.part ≡ false → is_limbo next.part ≡ false) → Tells w byte bytes (one hash_line next place shown cut)
stands-tells w byte bytes hash_line next place shown c cut e h k limbo = grind (arith, nat_tests, one-tells)

cut-tells : (w : Where) (fresh : Bool) (place byte : ℕ) (bytes : List ℕ) (cut : Cut) → IsPassed w fresh place byte bytes
    cut → Tells w byte bytes (one (in_hash_line w.part) (moved w (passed w.part)) place (byte ∷ bytes) cut)
cut-tells w fresh place byte bytes _ (Standing at e) = stands-tells w byte bytes (in_hash_line w.part)
    (moved w (passed w.part)) place (byte ∷ bytes) (code_at bytes) (code_token (code_at bytes) place (byte ∷ bytes))
    (eqb-true byte at_sign at) refl (code-kind (code_at bytes) place (byte ∷ bytes)) (passed-limbo w.part)
cut-tells w fresh place byte bytes cut _ = other-tells w byte bytes (in_hash_line w.part)
    (moved w (passed w.part)) place (byte ∷ bytes) cut refl refl (passed-limbo w.part)

begun-limbo : (place : ℕ) (effect : Effect) (part : Part) → BeginsPart place effect part → is_limbo part ≡ false
begun-limbo place _ _ Macro = refl
begun-limbo place _ _ _ = refl

code-tells : (w : Where) (fresh : Bool) (last place byte : ℕ) (bytes : List ℕ) (f : ScanStep)
    → CodeRule w fresh last place byte bytes f → Tells w byte bytes f
code-tells w fresh last place byte bytes _ (LineEnd h) = line-tells w.part w.comments last place byte bytes
code-tells w fresh last place byte bytes _ (Space line h) = same-tells w byte bytes
code-tells w fresh last place byte bytes _ (HashLine h takes first) = other-tells w byte bytes true
    (moved w (parts.Plain true behinds.Hash)) place (byte ∷ bytes) (plain kinds.HashLine 1) refl refl (λ h. refl)
code-tells w fresh last place byte bytes _ (Word bare h) =
    other-tells w byte bytes (in_hash_line w.part) (moved w (behind_word w.part (byte ∷ bytes))) place (byte ∷ bytes)
    (word (directive_at w.part (byte ∷ bytes)) (byte ∷ bytes)) refl refl (word-limbo w.part (byte ∷ bytes))
code-tells w fresh last place byte bytes _ (Passed cut p) = cut-tells w fresh place byte bytes cut p
code-tells w fresh last place byte bytes _ (Heading at e name may headed) = stands-tells w byte bytes
    (in_hash_line w.part) (moved w parts.Head) place (byte ∷ bytes) (code_at bytes) (code_token (code_at bytes) place
    (byte ∷ bytes)) (eqb-true byte at_sign at) refl (code-kind (code_at bytes) place (byte ∷ bytes)) (λ h. refl)
code-tells w fresh last place byte bytes _ (Beginning effect part at e begun) = stands-tells w byte bytes false
    (moved w part) place (byte ∷ bytes) (code_at bytes) (plain (kinds.Code (code_at bytes)) 2)
    (eqb-true byte at_sign at) refl (record { is = refl }) (λ h. begun-limbo place effect part begun)
code-tells w fresh last place byte bytes _ (Comment long h) =
    record { code = λ h. absurd cc; limbo = passed-limbo w.part; sign = λ h rest k. refl }
code-tells w fresh last place byte bytes _ (InnerEnd h ends) =
    record { code = λ h. absurd cc; limbo = inner-limbo w.part w.comments; sign = λ h rest k. refl }

notes-none : (ns : List NoteAt) → code_in (note_answers ns) ≡ at.Unknown
notes-none [] = refl
notes-none (n ∷ ns) = notes-none ns

comment-tells : (part : Part) (c : Opened) (cs : List Opened) (last place byte : ℕ) (bytes : List ℕ) (f : ScanStep)
    → CommentRule part c cs last place byte bytes f → Tells (record { part = part; comments = c ∷ cs }) byte bytes f
comment-tells part c cs last place byte bytes _ (Closed long h) = record {
  code = λ h. absurd (let k : true ≡ false = sym h
      ∙ ap is_opener (notes-none (one_note (note_unless (c.braces == 0) notes.MissingBrace place))) in cc);
  limbo = λ h. h;
  sign = λ h rest k. refl;
}
comment-tells part c cs last place byte bytes _ (EndedLine short h) = end-tells
    (record { part = part; comments = c ∷ cs }) (record { part = part; comments = cs }) byte bytes (comment_end
    (in_hash_line part) c place 0 []) (line_end part cs last place) (λ ys. end-code (in_hash_line part) c place 0 [] ys)
    (λ ys. refl) (λ h. h) (line-tells part cs last place byte bytes)
comment-tells part c cs last place byte bytes _ _ =
    record { code = λ h. absurd cc; limbo = λ h. h; sign = λ h rest k. refl }

-- ## Limbo, TeX text and heads

limbo-tells : (place byte : ℕ) (bytes : List ℕ) (f : ScanStep) → LimboRule place byte bytes f
    → Tells (within parts.Limbo) byte bytes f
limbo-tells place byte bytes _ (LimboCode at e) = stands-tells (within parts.Limbo) byte bytes false
    (within parts.Limbo) place (byte ∷ bytes) (code_at bytes) (code_token (code_at bytes) place (byte ∷ bytes))
    (eqb-true byte at_sign at) refl (code-kind (code_at bytes) place (byte ∷ bytes)) (λ h. h)
limbo-tells place byte bytes _ (LimboFormat at e) = stands-tells (within parts.Limbo) byte bytes false
    (within (parts.FormatName place false true)) place (byte ∷ bytes) (code_at bytes)
    (plain (kinds.Code (code_at bytes)) 2) (eqb-true byte at_sign at) refl (record { is = refl }) (λ h. h)
limbo-tells place byte bytes _ (LimboDropped note at e) =
    other-tells (within parts.Limbo) byte bytes false (within parts.Limbo) place (byte ∷ bytes)
    (dropped note place (plain (kinds.Code (code_at bytes)) (alone_size (byte ∷ bytes)))) refl refl (λ h. h)
limbo-tells place byte bytes _ (LimboText h) = other-tells (within parts.Limbo) byte bytes false (within parts.Limbo)
    place (byte ∷ bytes) (plain kinds.Text (run classes.LimboText (byte ∷ bytes))) refl refl (λ h. h)

word-stays : (bytes : List ℕ) (part next : Part) → IsHeadWord bytes part next → is_limbo part ≡ false
    → is_limbo next ≡ false
word-stays bytes _ _ (LastOfMacro code) h = h
word-stays bytes _ _ _ h = h

sign-stays : (code byte : ℕ) (bytes : List ℕ) (sign : Sign) (next : Part) → IsHeadSign code byte bytes sign next
    → is_limbo next ≡ false
sign-stays code byte bytes _ _ (CommaStands h) = refl
sign-stays code byte bytes _ _ _ = refl

part-tells : (fresh : Bool) (last place byte : ℕ) (bytes : List ℕ) (part : Part) (f : ScanStep)
    → PartRule fresh last place byte bytes part f → Tells (within part) byte bytes f
part-tells fresh last place byte bytes _ _ (OfCode part f is r) =
    code-tells (within part) fresh last place byte bytes f r
part-tells fresh last place byte bytes _ _ (OfLimbo f r) = limbo-tells place byte bytes f r
part-tells fresh last place byte bytes _ _ (TexCode at e) = stands-tells (within parts.Tex) byte bytes false
    (within parts.Tex) place (byte ∷ bytes) (code_at bytes) (code_token (code_at bytes) place (byte ∷ bytes))
    (eqb-true byte at_sign at) refl (code-kind (code_at bytes) place (byte ∷ bytes)) (λ h. h)
part-tells fresh last place byte bytes _ _ (TexHeading at e name headed) = stands-tells (within parts.Tex) byte bytes
    false (within parts.Head) place (byte ∷ bytes) (code_at bytes) (code_token (code_at bytes) place (byte ∷ bytes))
    (eqb-true byte at_sign at) refl (code-kind (code_at bytes) place (byte ∷ bytes)) (λ h. h)
part-tells fresh last place byte bytes _ _ (TexDropped note at e) = other-tells (within parts.Tex) byte bytes false
    (within parts.Tex) place (byte ∷ bytes) (dropped_code note (code_at bytes) place (byte ∷ bytes)) refl refl (λ h. h)
part-tells fresh last place byte bytes _ _ (TexBeginning effect part at e begun) = stands-tells (within parts.Tex) byte
    bytes false (within part) place (byte ∷ bytes) (code_at bytes) (plain (kinds.Code (code_at bytes)) 2)
    (eqb-true byte at_sign at) refl (record { is = refl }) (λ h. begun-limbo place effect part begun)
part-tells fresh last place byte bytes _ _ (TexInner h) =
    record { code = λ h. absurd cc; limbo = λ h. refl; sign = λ h rest k. refl }
part-tells fresh last place byte bytes _ _ (TexText at h) = other-tells (within parts.Tex) byte bytes false
    (within parts.Tex) place (byte ∷ bytes) (plain kinds.Text (run classes.TexText (byte ∷ bytes))) refl refl (λ h. h)
part-tells fresh last place byte bytes _ _ (Blank h) = same-tells (within parts.Head) byte bytes
part-tells fresh last place byte bytes _ _ (HeadSign h) =
    record { code = λ h. absurd cc; limbo = λ h. refl; sign = λ h. absurd cc }
part-tells fresh last place byte bytes _ _ (White part h wanted) = same-tells (within part) byte bytes
part-tells fresh last place byte bytes _ _ (HeadWord part next h k) = other-tells (within part) byte bytes false
    (within next) place (byte ∷ bytes) (identifier (byte ∷ bytes)) refl refl (word-stays (byte ∷ bytes) part next k)
part-tells fresh last place byte bytes _ _ (Opening code) =
    other-tells (within (parts.MacroParen code)) byte bytes false (within (parts.Parameters code)) place (byte ∷ bytes)
    (plain (kinds.Sign signs.LeftParen) 1) refl refl (λ h. h)
part-tells fresh last place byte bytes _ _ (ParameterSign code sign next k) =
    other-tells (within (parts.Parameters code)) byte bytes false (within next) place (byte ∷ bytes)
    (plain (kinds.Sign sign) (length (spelling sign))) refl refl (λ h. sign-stays code byte bytes sign next k)
part-tells fresh last place byte bytes _ _ (Improper part kind code f i r) =
    note-tells (within part) (within parts.Definition) byte bytes (record { kind = kind; place = code }) f (λ h. refl)
    (λ h. refl) (code-tells (within parts.Definition) fresh last place byte bytes f r)
part-tells fresh last place byte bytes _ _ (ImproperInLimbo code second f r) =
    note-tells (within (parts.FormatName code second true)) (within parts.Limbo) byte bytes
    (record { kind = notes.ImproperFormat; place = code }) f (λ h. h) (λ h. refl) (limbo-tells place byte bytes f r)

pub in-text-tells : (part : Part) (cs : List Opened) (fresh : Bool) (last place byte : ℕ) (bytes : List ℕ)
    → Tells (record { part = part; comments = cs }) byte bytes (in_text_apart part cs fresh last place byte bytes)
in-text-tells part [] fresh last place byte bytes =
    part-tells fresh last place byte bytes part _ (part-rule fresh last place byte bytes part)
in-text-tells part (c ∷ cs) fresh last place byte bytes =
    let w : Where = record { part = part; comments = c ∷ cs } in
    if-both (Tells w byte bytes) c.inner _ _
    (λ e. code-tells w fresh last place byte bytes _ (code-rule w fresh last place byte bytes))
    (λ e. comment-tells part c cs last place byte bytes _ (comment-rule part c cs last place byte bytes))
