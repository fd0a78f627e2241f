-- The scanner's answers over C text are nested.
use Rattle.std.proofs.Common.{◌≡◌, ℕ, zero, suc, ◌+◌, Bool, true, false, not, ◌&&◌, Option, Some, List, [], ◌∷◌, ◌++◌}
use Rattle.std.proofs.Common.{refl, sym, ◌∙◌, ap, subst, append-nil, append_assoc, arith}
use Rattle.std.specs.Prelude.{if◌then◌else◌, ◌==◌}
use Rattle.std.proofs.lemmas.Bool.Decides.{nat_tests}
use Rattle.cw_base.{proofs.TestLaws.both-left, proofs.TestLaws.both-right, specs.declared.notes.NoteKind.NoteKind}
use Rattle.cw_rules.specs.declared.{codes.Code.Code, codes.Effect.Effect, bodies.NoteAt.NoteAt, parts.Part.Part}
use Rattle.cw_rules.specs.declared.{parts.Opened.Opened, tokens.Mode.Mode, tokens.TokKind.TokKind}
use Rattle.cw_rules.specs.{Bodies.one_note, Bodies.note_unless, Bodies.noted, model.Apart.found_apart, Bytes.at_sign}
use Rattle.cw_rules.specs.Codes.{is_section, begins_section, effect_in_c, code_at}
use Rattle.cw_rules.specs.Tokens.{parameter_follows, parameter, format_name, one, skipped_byte, piece_start, passed}
use Rattle.cw_rules.specs.Tokens.{moved, in_hash_line, ends_at_bar, line_end, comment_begin, comment_end, inner_cut}
use Rattle.cw_rules.specs.Tokens.{comment_cut, part_cut, inner_or_none, all_cut, inner_end, effect_in, code_token}
use Rattle.cw_rules.specs.Tokens.{control_or_plain, head_text, section, section_code, behind_word, directive_at}
use Rattle.cw_rules.specs.Tokens.{is_include, may_head, takes_hash_line, name_follows, macro_name, word}
use Rattle.cw_rules.specs.model.Apart.{behind_head_apart, code_text_apart, comment_text_apart, part_text_apart}
use Rattle.cw_rules.specs.model.Apart.{in_text_apart}
use Rattle.cw_rules.specs.Answers.{Answer, Note, Where, Cut, ScanStep, before, note_answers, plain}
use Rattle.cw_lex.specs.Lexing.{answers, joined, tokens_of, still_fresh}
use Rattle.cw_lex.specs.Nested.{Level, InCode, InComment, after_token, levels_after, all_levels_after, IsNested}
use Rattle.cw_lex.specs.Nested.{is_section_kind, is_section_answer, begins_section_in, until_section, is_c_mode}
use Rattle.cw_rules.proofs.Choices.{if-both, or-false, or-first, or-second}
use Rattle.cw_rules.specs.declared.codes.Code.TheVariants as code
use Rattle.cw_rules.specs.declared.codes.Effect.TheVariants as effects
use Rattle.cw_rules.specs.declared.parts.Behind.TheVariants as behinds
use Rattle.cw_rules.specs.declared.parts.Part.TheVariants as parts
use Rattle.cw_rules.specs.declared.tokens.Mode.TheVariants as modes
use Rattle.cw_rules.specs.declared.tokens.TokKind.TheVariants as kind
use Rattle.cw_base.specs.declared.notes.NoteKind.TheVariants as notes
use Rattle.cw_rules.proofs.Rules.{BeginsPart, Macro, IsPassed, Standing, CodeRule, LineEnd, Space, HashLine, Word}
use Rattle.cw_rules.proofs.Rules.{Passed, Heading, Beginning, Comment, InnerEnd, CommentRule, Closed, EndedLine}
use Rattle.cw_rules.proofs.Rules.{InnerBegin, Piece, code-rule, comment-rule}

levels-append : (xs bs : List Answer) (ls ms : List Level) → all_levels_after xs ls ≡ Some ms
    → all_levels_after (xs ++ bs) ls ≡ all_levels_after bs ms
levels-append [] bs ls ms h = ap (all_levels_after bs) (let e : ls ≡ ms = cc in e)
levels-append (a ∷ xs) bs ls ms h = go (levels_after a ls) refl (λ next. levels-append xs bs next ms)
  where
    go : (o : Option (List Level)) → levels_after a ls ≡ o → ((next : List Level) → all_levels_after xs next ≡ Some ms
        → all_levels_after (xs ++ bs) next ≡ all_levels_after bs ms) → all_levels_after (a ∷ xs ++ bs) ls
        ≡ all_levels_after bs ms
    go o e rec = grind (arith, nat_tests)

pub notes-stay : (ns : List NoteAt) (ls : List Level) → all_levels_after (note_answers ns) ls ≡ Some ls
notes-stay [] ls = refl
notes-stay (n ∷ ns) ls = notes-stay ns ls

-- the levels of a place
abbrev pub with_code : Bool → List Level → List Level
with_code true ls = InCode ∷ ls
with_code false ls = ls

abbrev pub levels_in : List Opened → List Level
levels_in [] = InCode ∷ []
levels_in (c ∷ cs) = with_code c.inner (InComment ∷ levels_in cs)

abbrev pub all_inner : List Opened → Bool
all_inner [] = true
all_inner (c ∷ cs) = c.inner && all_inner cs

abbrev pub nested_in : List Opened → Bool
nested_in [] = true
nested_in (c ∷ cs) = all_inner cs

abbrev pub is_c : Part → Bool
is_c parts.Begin = true
is_c (parts.Plain h i) = true
is_c parts.Inner = true
is_c parts.TexInner = true
is_c parts.Head = true
is_c parts.Definition = true
is_c (parts.MacroName place) = true
is_c (parts.MacroParen place) = true
is_c (parts.Parameters place) = true
is_c (parts.FormatName place second limbo) = not limbo
is_c _ = false

-- Inner C text of TeX text stays what it is, and no other part becomes it.
abbrev pub in_tex : Part → Bool
in_tex parts.TexInner = true
in_tex _ = false

pub inner-nested : (cs : List Opened) → all_inner cs ≡ true → nested_in cs ≡ true
inner-nested cs h = grind (arith, both-right)

-- C text goes on in code
pub code-first : (cs : List Opened) → all_inner cs ≡ true → (ls : List Level) × (levels_in cs ≡ InCode ∷ ls)
code-first [] h = ([], refl)
code-first (c ∷ cs) h = (
  InComment ∷ levels_in cs,
  ap (λ b. with_code b (InComment ∷ levels_in cs)) (both-left c.inner (all_inner cs) h),
)

passed-c : (p : Part) → is_c p ≡ true → is_c (passed p) ≡ true
passed-c p h = grind arith

passed-tex : (p : Part) → in_tex (passed p) ≡ in_tex p
passed-tex p = grind arith

hash-tex : (p : Part) → in_hash_line p ≡ true → false ≡ in_tex p
hash-tex p h = grind arith

takes-tex : (p : Part) (cs : List Opened) → takes_hash_line p cs ≡ true → false ≡ in_tex p
takes-tex p cs h = grind arith

head-tex : (p : Part) (cs : List Opened) → may_head p cs ≡ true → false ≡ in_tex p
head-tex p cs h = grind arith

-- what holds of what begins at a place
pub record Goes (tex : Bool) (ls : List Level) (f : ScanStep) : Type 0 where
  pub part : is_c f.next.part ≡ true
  pub same : in_tex f.next.part ≡ tex
  pub nested : nested_in f.next.comments ≡ true
  pub levels : all_levels_after f.answers ls ≡ Some (levels_in f.next.comments)
  pub uncut : begins_section_in f.answers ≡ false

same-goes : (a b : Bool) (ls : List Level) (f : ScanStep) → a ≡ b → Goes a ls f → Goes b ls f
same-goes a b ls f e g = grind (arith, nat_tests)

-- what stands in C text
abbrev in_c : TokKind → Bool
in_c kind.Text = false
in_c (kind.Code code.Section) = false
in_c (kind.Code code.StarredSection) = false
in_c _ = true

token-stays : (k : TokKind) (ls : List Level) → in_c k ≡ true → after_token k (InCode ∷ ls) ≡ Some (InCode ∷ ls)
token-stays k ls h = grind arith

token-uncut : (k : TokKind) → in_c k ≡ true → is_section_kind k ≡ false
token-uncut k h = grind arith

notes-uncut : (ns : List NoteAt) → begins_section_in (note_answers ns) ≡ false
notes-uncut [] = refl
notes-uncut (n ∷ ns) = notes-uncut ns

append-uncut : (xs ys : List Answer) → begins_section_in xs ≡ false → begins_section_in ys ≡ false
    → begins_section_in (xs ++ ys) ≡ false
append-uncut [] ys h g = g
append-uncut (x ∷ xs) ys h g = or-false (is_section_answer x) (begins_section_in (xs ++ ys))
    (or-first (is_section_answer x) (begins_section_in xs) h)
    (append-uncut xs ys (or-second (is_section_answer x) (begins_section_in xs) h) g)

one-goes : (tex hash_line : Bool) (next : Where) (place : ℕ) (bytes : List ℕ) (cut : Cut) → in_tex next.part ≡ tex
    → in_c cut.kind ≡ true → is_c next.part ≡ true → all_inner next.comments ≡ true
    → Goes tex (levels_in next.comments) (one hash_line next place bytes cut)
one-goes tex hash_line next place bytes cut same k part inner =
    grind (arith, nat_tests, code-first, inner-nested, token-stays, notes-stay, or-false, token-uncut, notes-uncut)

pub skip-goes : (w : Where) → is_c w.part ≡ true → all_inner w.comments ≡ true
    → Goes (in_tex w.part) (levels_in w.comments) (skipped_byte w)
skip-goes w part inner = grind (arith, nat_tests, inner-nested)

before-goes : (tex : Bool) (xs : List Answer) (ls ms : List Level) (f : ScanStep) → all_levels_after xs ls ≡ Some ms
    → begins_section_in xs ≡ false → Goes tex ms f → Goes tex ls (before xs f)
before-goes tex xs ls ms f h u g = grind (arith, nat_tests, levels-append, append-uncut)

-- the end of a comment, whose level is the first
end-levels : (hash_line : Bool) (c : Opened) (place size : ℕ) (bytes : List ℕ) (cs : List Opened) → all_inner cs ≡ true
    → all_levels_after (comment_end hash_line c place size bytes) (InComment ∷ levels_in cs) ≡ Some (levels_in cs)
end-levels hash_line c place size bytes cs inner = grind (arith, nat_tests, code-first, notes-stay)

end-uncut : (hash_line : Bool) (c : Opened) (place size : ℕ) (bytes : List ℕ)
    → begins_section_in (comment_end hash_line c place size bytes) ≡ false
end-uncut hash_line c place size bytes = notes-uncut (one_note (note_unless (c.braces == 0) notes.MissingBrace place))

pub line-goes : (part : Part) (cs : List Opened) (last place : ℕ) → is_c part ≡ true → all_inner cs ≡ true
    → Goes (in_tex part) (levels_in cs) (line_end part cs last place)
line-goes part [] last place p inner = grind (arith, nat_tests, if-both, one-goes, hash-tex, both-left, skip-goes)
line-goes part (c ∷ cs) last place p inner =
    let cut = inner_cut (in_hash_line part) place place ++ comment_end (in_hash_line part) c place 0 [] in
    if-both (Goes (in_tex part) (levels_in (c ∷ cs))) c.long _ _
    (λ e. skip-goes (record { part = part; comments = c ∷ cs }) p inner) (λ e. before-goes (in_tex part) cut
    (levels_in (c ∷ cs)) (levels_in cs) (line_end (passed part) cs last place) (ap (λ b. all_levels_after cut
    (with_code b (InComment ∷ levels_in cs))) (both-left c.inner (all_inner cs) inner) ∙ end-levels (in_hash_line part)
    c place 0 [] cs (both-right c.inner (all_inner cs) inner)) (end-uncut (in_hash_line part) c place 0 []) (same-goes
    (in_tex (passed part)) (in_tex part) (levels_in cs) (line_end (passed part) cs last place) (passed-tex part)
    (line-goes (passed part) cs last place (passed-c part p) (both-right c.inner (all_inner cs) inner))))

-- a comment begins, and inner C text begins and ends
comment-goes : (long : Bool) (w : Where) (place : ℕ) (bytes : List ℕ) → is_c w.part ≡ true → all_inner w.comments ≡ true
    → Goes (in_tex w.part) (levels_in w.comments) (comment_begin long w place bytes)
comment-goes long w place bytes p inner = grind (arith, nat_tests, code-first, passed-c, passed-tex)

abbrev pub is_open : List Opened → Bool
is_open [] = false
is_open (c ∷ cs) = true

inner-ends : (part : Part) (cs : List Opened) (place : ℕ) (bytes : List ℕ) → is_c part ≡ true → all_inner cs ≡ true
    → is_open cs ≡ true → Goes (in_tex part) (levels_in cs) (inner_end (record { part = part; comments = cs }) place
    bytes)
inner-ends part cs place bytes p inner opens = grind (arith, nat_tests, passed-c, passed-tex, both-right, both-left)

record InC (x : Cut) : Type 0 where
  pub is : in_c x.kind ≡ true

code-in-c : (c : Code) → is_section c ≡ false → in_c (kind.Code c) ≡ true
code-in-c c h = grind arith

control-kind : (c : Code) (place : ℕ) (bytes : List ℕ) → is_section c ≡ false → InC (control_or_plain c place bytes)
control-kind c place bytes h = grind (arith, nat_tests, if-both, code-in-c)

code-kind : (c : Code) (place : ℕ) (bytes : List ℕ) → is_section c ≡ false → InC (code_token c place bytes)
code-kind c place bytes h = grind (arith, nat_tests, if-both, code-in-c, control-kind)

-- no code with which a part begins stands in inner C text of TeX text
abbrev is_kept : Effect → Bool
is_kept effects.Stands = true
is_kept (effects.Drops note) = true
is_kept _ = false

kept-in-c : (c : Code) → is_kept (effect_in_c c) ≡ true
kept-in-c c = grind arith

kept : (part : Part) (cs : List Opened) (c : Code) → in_tex part ≡ true → is_kept (effect_in part cs c) ≡ true
kept part cs c h = grind (arith, kept-in-c)

begun-c : (place : ℕ) (effect : Effect) (part : Part) → BeginsPart place effect part
    → (is_c part ≡ true) × ((in_tex part ≡ false) × (is_kept effect ≡ false))
begun-c place _ _ Macro = (refl, (refl, refl))
begun-c place _ _ _ = (refl, (refl, refl))

-- where inner text of TeX text stays, another part's text isn't it
other-tex : (b t : Bool) → (b ≡ true → t ≡ true) → t ≡ false → false ≡ b
other-tex b t f e = grind arith

word-c : (p : Part) (bytes : List ℕ) → is_c p ≡ true → is_c (behind_word p bytes) ≡ true
word-c p bytes h = if-both (λ (q : Part). is_c q ≡ true) (in_hash_line p && is_include bytes) (parts.Plain true
    behinds.Include)
    (passed p) (λ e. refl) (λ e. passed-c p h)

word-tex : (p : Part) (bytes : List ℕ) → in_tex (behind_word p bytes) ≡ in_tex p
word-tex p bytes = if-both (λ (q : Part). in_tex q ≡ in_tex p) (in_hash_line p && is_include bytes) (parts.Plain true
    behinds.Include) (passed p) (λ e. hash-tex p (both-left (in_hash_line p) (is_include bytes) e)) (λ e. passed-tex p)

-- no section code
plain-code : (byte : ℕ) (bytes : List ℕ) → (byte == at_sign && begins_section bytes) ≡ false → (byte == at_sign) ≡ true
    → is_section (code_at bytes) ≡ false
plain-code byte bytes section at = ap (λ t. t && begins_section bytes) (sym at) ∙ section

passed-in-c : (w : Where) (fresh : Bool) (place byte : ℕ) (bytes : List ℕ) → (byte == at_sign && begins_section bytes)
    ≡ false → (cut : Cut) → IsPassed w fresh place byte bytes cut → in_c cut.kind ≡ true
passed-in-c w fresh place byte bytes section _ (Standing at e) =
    (code-kind (code_at bytes) place (byte ∷ bytes) (plain-code byte bytes section at)).is
passed-in-c w fresh place byte bytes section _ _ = refl

-- What begins at a byte of C text, but for a bar that ends it.
pub rule-goes : (P : ScanStep → Type 0) (w : Where) (fresh : Bool) (last place byte : ℕ) (bytes : List ℕ)
    → (byte == at_sign && begins_section bytes) ≡ false → is_c w.part ≡ true → all_inner w.comments ≡ true
    → ((f : ScanStep) → Goes (in_tex w.part) (levels_in w.comments) f → P f) → (ends_at_bar w.part w.comments ≡ true → P
    (inner_end w place (byte ∷ bytes))) → (f : ScanStep) → CodeRule w fresh last place byte bytes f → P f
rule-goes P w fresh last place byte bytes section p inner goes ends _ (LineEnd h) =
    goes (line_end w.part w.comments last place) (line-goes w.part w.comments last place p inner)
rule-goes P w fresh last place byte bytes section p inner goes ends _ (Space line h) =
    goes (skipped_byte w) (skip-goes w p inner)
rule-goes P w fresh last place byte bytes section p inner goes ends _ (HashLine h takes first) =
    goes _ (one-goes (in_tex w.part) true (moved w (parts.Plain true behinds.Hash)) place (byte ∷ bytes)
    (plain kind.HashLine 1) (takes-tex w.part w.comments takes) refl refl inner)
rule-goes P w fresh last place byte bytes section p inner goes ends _ (Word bare h) = goes _
    (one-goes (in_tex w.part) (in_hash_line w.part) (moved w (behind_word w.part (byte ∷ bytes))) place (byte ∷ bytes)
    (word (directive_at w.part (byte ∷ bytes)) (byte ∷ bytes)) (word-tex w.part (byte ∷ bytes)) refl (word-c w.part
    (byte ∷ bytes) p) inner)
rule-goes P w fresh last place byte bytes section p inner goes ends _ (Passed cut k) =
    goes _ (one-goes (in_tex w.part) (in_hash_line w.part) (moved w (passed w.part)) place (byte ∷ bytes) cut
    (passed-tex w.part) (passed-in-c w fresh place byte bytes section cut k) (passed-c w.part p) inner)
rule-goes P w fresh last place byte bytes section p inner goes ends _ (Heading at e name may headed) =
    goes _ (one-goes (in_tex w.part) (in_hash_line w.part) (moved w parts.Head) place (byte ∷ bytes)
    (code_token (code_at bytes) place (byte ∷ bytes)) (head-tex w.part w.comments may)
    (code-kind (code_at bytes) place (byte ∷ bytes) (plain-code byte bytes section at)).is refl inner)
rule-goes P w fresh last place byte bytes section p inner goes ends _ (Beginning effect part at e begun) =
    let b = begun-c place effect part begun in
    let keeps = λ (h : in_tex w.part ≡ true). ap is_kept (sym e) ∙ kept w.part w.comments (code_at bytes) h in
    goes _ (one-goes (in_tex w.part) false (moved w part) place (byte ∷ bytes) (plain (kind.Code (code_at bytes)) 2)
    (b.1.0 ∙ other-tex (in_tex w.part) (is_kept effect) keeps b.1.1)
    (code-in-c (code_at bytes) (plain-code byte bytes section at)) b.0 inner)
rule-goes P w fresh last place byte bytes section p inner goes ends _ (Comment long h) =
    goes _ (comment-goes long w place (byte ∷ bytes) p inner)
rule-goes P w fresh last place byte bytes section p inner goes ends _ (InnerEnd h e) = ends e

text-goes : (part : Part) (cs : List Opened) (fresh : Bool) (last place byte : ℕ) (bytes : List ℕ)
    → (byte == at_sign && begins_section bytes) ≡ false → is_c part ≡ true → all_inner cs ≡ true
    → (ends_at_bar part cs ≡ true → is_open cs ≡ true) → Goes (in_tex part) (levels_in cs)
    (code_text_apart (record { part = part; comments = cs }) fresh last place byte bytes)
text-goes part cs fresh last place byte bytes section p inner opens =
    let w : Where = record { part = part; comments = cs } in
    rule-goes (Goes (in_tex part) (levels_in cs)) w fresh last place byte bytes section p inner (λ f g. g)
    (λ e. inner-ends part cs place (byte ∷ bytes) p inner (opens e)) _ (code-rule w fresh last place byte bytes)

-- the text of a comment
comment-text-goes : (part : Part) (c : Opened) (cs : List Opened) (last place byte : ℕ) (bytes : List ℕ)
    → is_c part ≡ true → all_inner cs ≡ true → c.inner ≡ false → (f : ScanStep)
    → CommentRule part c cs last place byte bytes f → Goes (in_tex part) (InComment ∷ levels_in cs) f
comment-text-goes part c cs last place byte bytes p inner f _ (Closed long h) = record {
  part = p;
  same = refl;
  nested = inner-nested cs inner;
  levels = end-levels (in_hash_line part) c place 2 (byte ∷ bytes) cs inner;
  uncut = end-uncut (in_hash_line part) c place 2 (byte ∷ bytes);
}
comment-text-goes part c cs last place byte bytes p inner f _ (EndedLine short h) =
    before-goes (in_tex part) (comment_end (in_hash_line part) c place 0 []) (InComment ∷ levels_in cs)
    (levels_in cs) (line_end part cs last place) (end-levels (in_hash_line part) c place 0 [] cs inner)
    (end-uncut (in_hash_line part) c place 0 []) (line-goes part cs last place p inner)
comment-text-goes part c cs last place byte bytes p inner f _ (InnerBegin h deep) =
    record { part = p; same = refl; nested = inner; levels = refl; uncut = refl }
comment-text-goes part c cs last place byte bytes p inner f _ (Piece closes line opens) = record {
  part = p;
  same = refl;
  nested = inner;
  levels = notes-stay (noted (piece_start part cs c place) (byte ∷ bytes)) (InComment ∷ levels_in cs)
      ∙ ap (λ b. Some (with_code b (InComment ∷ levels_in cs))) (sym f);
  uncut = notes-uncut (noted (piece_start part cs c place) (byte ∷ bytes));
}

-- heads
head-goes : (place byte : ℕ) (bytes : List ℕ) → Goes false (InCode ∷ [])
    (head_text (record { part = parts.Head; comments = [] }) place byte bytes)
head-goes place byte bytes = grind (arith, nat_tests, if-both, skip-goes, one-goes)

definition-goes : (fresh : Bool) (last place byte : ℕ) (bytes : List ℕ)
    → (byte == at_sign && begins_section bytes) ≡ false → Goes false (InCode ∷ [])
    (code_text_apart (record { part = parts.Definition; comments = [] }) fresh last place byte bytes)
definition-goes fresh last place byte bytes section = text-goes parts.Definition [] fresh last place byte bytes section
    refl refl (λ e. absurd cc)

improper-goes : (note : NoteKind) (at : ℕ) (part : Part) (fresh : Bool) (last place byte : ℕ) (bytes : List ℕ)
    → (byte == at_sign && begins_section bytes) ≡ false → Goes false (InCode ∷ []) (before (Note note at ∷ [])
    (behind_head_apart false (record { part = part; comments = [] }) fresh last place byte bytes))
improper-goes note at part fresh last place byte bytes section = before-goes false (Note note at ∷ []) (InCode ∷ [])
    (InCode ∷ []) (code_text_apart (record { part = parts.Definition; comments = [] }) fresh last place byte bytes) refl
    refl (definition-goes fresh last place byte bytes section)

macro-goes : (at place byte : ℕ) (bytes : List ℕ) → Goes false (InCode ∷ [])
    (macro_name at (record { part = parts.MacroName at; comments = [] }) place byte bytes)
macro-goes at place byte bytes = grind (arith, if-both, skip-goes, one-goes)

parameter-goes : (at place byte : ℕ) (bytes : List ℕ)
    → Goes false (InCode ∷ []) (parameter (record { part = parts.Parameters at; comments = [] }) place byte bytes)
parameter-goes at place byte bytes = grind (arith, if-both, skip-goes, one-goes)

format-goes : (at : ℕ) (second : Bool) (place byte : ℕ) (bytes : List ℕ) → Goes false (InCode ∷ [])
    (format_name at second false (record { part = parts.FormatName at second false; comments = [] }) place byte bytes)
format-goes at second place byte bytes = grind (arith, if-both, skip-goes, one-goes)

part-goes : (part : Part) (fresh : Bool) (last place byte : ℕ) (bytes : List ℕ)
    → (byte == at_sign && begins_section bytes) ≡ false → is_c part ≡ true → in_tex part ≡ false → Goes false
    (InCode ∷ []) (part_text_apart part (record { part = part; comments = [] }) fresh last place byte bytes)
part-goes parts.Begin fresh last place byte bytes section p t =
    text-goes parts.Begin [] fresh last place byte bytes section refl refl (λ e. absurd cc)
part-goes (parts.Plain a b) fresh last place byte bytes section p t =
    text-goes (parts.Plain a b) [] fresh last place byte bytes section refl refl (λ e. absurd cc)
part-goes parts.Inner fresh last place byte bytes section p t =
    text-goes parts.Inner [] fresh last place byte bytes section refl refl (λ e. absurd cc)
part-goes parts.Definition fresh last place byte bytes section p t = definition-goes fresh last place byte bytes section
part-goes parts.Head fresh last place byte bytes section p t = head-goes place byte bytes
part-goes (parts.MacroName at) fresh last place byte bytes section p t =
    if-both (Goes false (InCode ∷ [])) (name_follows (byte ∷ bytes)) _ _ (λ e. macro-goes at place byte bytes)
    (λ e. improper-goes notes.ImproperMacro at (parts.MacroName at) fresh last place byte bytes section)
part-goes (parts.MacroParen at) fresh last place byte bytes section p t = grind (arith, one-goes)
part-goes (parts.Parameters at) fresh last place byte bytes section p t =
    if-both (Goes false (InCode ∷ [])) (parameter_follows (byte ∷ bytes)) _ _ (λ e. parameter-goes at place byte bytes)
    (λ e. improper-goes notes.ImproperMacro at (parts.Parameters at) fresh last place byte bytes section)
part-goes (parts.FormatName at second false) fresh last place byte bytes section p t = if-both
    (Goes false (InCode ∷ [])) (name_follows (byte ∷ bytes)) _ _ (λ e. format-goes at second place byte bytes)
    (λ e. improper-goes notes.ImproperFormat at (parts.FormatName at second false) fresh last place byte bytes section)
part-goes _ fresh last place byte bytes section p t = absurd cc

pub open-goes : (part : Part) (c : Opened) (cs : List Opened) (fresh : Bool) (last place byte : ℕ) (bytes : List ℕ)
    → (byte == at_sign && begins_section bytes) ≡ false → is_c part ≡ true → all_inner cs ≡ true
    → Goes (in_tex part) (levels_in (c ∷ cs)) (in_text_apart part (c ∷ cs) fresh last place byte bytes)
open-goes part c cs fresh last place byte bytes section p n = if-both (Goes (in_tex part) (levels_in (c ∷ cs))) c.inner
    _ _ (λ e. text-goes part (c ∷ cs) fresh last place byte bytes section p (ap (λ b. b && all_inner cs) e ∙ n)
    (λ e. refl)) (λ e. subst (λ b. Goes (in_tex part) (with_code b (InComment ∷ levels_in cs))
    (comment_text_apart part c cs last place byte bytes)) (sym e)
    (comment-text-goes part c cs last place byte bytes p n e _ (comment-rule part c cs last place byte bytes)))

in-text-goes : (part : Part) (cs : List Opened) (fresh : Bool) (last place byte : ℕ) (bytes : List ℕ)
    → (byte == at_sign && begins_section bytes) ≡ false → is_c part ≡ true → in_tex part ≡ false → nested_in cs ≡ true
    → Goes false (levels_in cs) (in_text_apart part cs fresh last place byte bytes)
in-text-goes part [] fresh last place byte bytes section p t n = part-goes part fresh last place byte bytes section p t
in-text-goes part (c ∷ cs) fresh last place byte bytes section p t n =
    same-goes (in_tex part) false (levels_in (c ∷ cs)) (in_text_apart part (c ∷ cs) fresh last place byte bytes) t
    (open-goes part c cs fresh last place byte bytes section p n)

-- ## What is open ends

pub open-levels : (b hash_line : Bool) (place about : ℕ) (ls : List Level)
    → all_levels_after (inner_or_none b hash_line place about) (with_code b (InComment ∷ ls)) ≡ Some (InComment ∷ ls)
open-levels b hash_line place about ls = grind arith

pub cut-one : (hash_line : Bool) (c : Opened) (place about : ℕ) (cs : List Opened) → all_inner cs ≡ true
    → all_levels_after (comment_cut hash_line c place about) (InComment ∷ levels_in cs) ≡ Some (levels_in cs)
cut-one hash_line c place about cs inner = grind (arith, nat_tests, code-first, notes-stay)

part-levels : (part : Part) (place about : ℕ) → in_tex part ≡ false
    → all_levels_after (part_cut part place about) (InCode ∷ []) ≡ Some (InCode ∷ [])
part-levels part place about t = grind arith

cut-levels : (part : Part) (cs : List Opened) (place about : ℕ) → in_tex part ≡ false → nested_in cs ≡ true
    → all_levels_after (all_cut part cs place about) (levels_in cs) ≡ Some (InCode ∷ [])
cut-levels part [] place about t n = part-levels part place about t
cut-levels part (c ∷ cs) place about t n = levels-append (inner_or_none c.inner (in_hash_line part) place about)
    (comment_cut (in_hash_line part) c place about ++ all_cut part cs place about) (levels_in (c ∷ cs))
    (InComment ∷ levels_in cs) (open-levels c.inner (in_hash_line part) place about (levels_in cs)) ∙ levels-append
    (comment_cut (in_hash_line part) c place about) (all_cut part cs place about) (InComment ∷ levels_in cs) (levels_in
    cs) (cut-one (in_hash_line part) c place about cs n) ∙ cut-levels part cs place about t (inner-nested cs n)

part-uncut : (part : Part) (place about : ℕ) → begins_section_in (part_cut part place about) ≡ false
part-uncut part place about = grind arith

inner-uncut : (b hash_line : Bool) (place about : ℕ) → begins_section_in (inner_or_none b hash_line place about) ≡ false
inner-uncut b hash_line place about = grind arith

pub cut-uncut : (part : Part) (cs : List Opened) (place about : ℕ) → begins_section_in (all_cut part cs place about)
    ≡ false
cut-uncut part [] place about = part-uncut part place about
cut-uncut part (c ∷ cs) place about =
    grind (arith, nat_tests, cut-uncut part cs place about, append-uncut, inner-uncut, notes-uncut)

-- ## Up to a section code

until-append : (xs ys : List Answer) → begins_section_in xs ≡ false → until_section (xs ++ ys) ≡ xs ++ until_section ys
until-append [] ys h = refl
until-append (x ∷ xs) ys h =
    grind (arith, until-append xs ys (or-second (is_section_answer x) (begins_section_in xs) h), or-first, or-second)

pub until-none : (xs : List Answer) → begins_section_in xs ≡ false → until_section xs ≡ xs
until-none xs h = ap until_section (sym (append-nil xs)) ∙ until-append xs [] h ∙ append-nil xs

pub record IsSection (x : Cut) : Type 0 where
  pub is : is_section_kind x.kind ≡ true

pub section-kind : (bytes : List ℕ) → IsSection (section_code bytes)
section-kind bytes = grind (arith, nat_tests, if-both)

-- a section code, before which all that is open ends
until-cut : (w : Where) (place : ℕ) (bytes : List ℕ) (ys : List Answer)
    → until_section ((section w place bytes).answers ++ ys) ≡ all_cut w.part w.comments place place
until-cut w place bytes ys = grind (arith, nat_tests, append_assoc, until-append, cut-uncut, section-kind, append-nil)

answers-nest : (bytes : List ℕ) (w : Where) (fresh : Bool) (last place taken : ℕ) → is_c w.part ≡ true → in_tex w.part
    ≡ false → nested_in w.comments ≡ true → all_levels_after (until_section (answers bytes w fresh last place taken))
    (levels_in w.comments) ≡ Some (InCode ∷ [])
answers-nest [] w fresh last place taken p t n = grind (arith, until-none, cut-uncut, cut-levels)
answers-nest (byte ∷ bytes) w fresh last place zero p t n = by (byte == at_sign && begins_section bytes) refl
    (λ f g. answers-nest bytes f.next (still_fresh fresh byte) byte (place + 1) f.more g.part g.same g.nested)
  where
    by : (s : Bool) → (byte == at_sign && begins_section bytes) ≡ s → ((f : ScanStep)
        → Goes false (levels_in w.comments) f
        → all_levels_after (until_section (answers bytes f.next (still_fresh fresh byte) byte (place + 1) f.more))
        (levels_in f.next.comments) ≡ Some (InCode ∷ [])) → all_levels_after
        (until_section (joined (found_apart w fresh last place byte bytes) (λ next more. answers bytes next
        (still_fresh fresh byte) byte (place + 1) more))) (levels_in w.comments) ≡ Some (InCode ∷ [])
    by true e rec = ap (λ s. all_levels_after (until_section (joined (if s then section w place bytes else in_text_apart
        w.part w.comments fresh last place byte bytes) (λ next more. answers bytes next (still_fresh fresh byte) byte
        (place + 1) more))) (levels_in w.comments)) e ∙ ap (λ l. all_levels_after l (levels_in w.comments))
        (until-cut w place bytes (answers bytes (section w place bytes).next (still_fresh fresh byte) byte (place + 1)
        (section w place bytes).more)) ∙ cut-levels w.part w.comments place place t n
    by false e rec =
        let f = in_text_apart w.part w.comments fresh last place byte bytes in
        let g = in-text-goes w.part w.comments fresh last place byte bytes e p t n in
        let behind = answers bytes f.next (still_fresh fresh byte) byte (place + 1) f.more in
        ap (λ s. all_levels_after (until_section (joined (if s then section w place bytes else f)
        (λ next more. answers bytes next (still_fresh fresh byte) byte (place + 1) more))) (levels_in w.comments)) e
        ∙ ap (λ l. all_levels_after l (levels_in w.comments)) (until-append f.answers behind g.uncut)
        ∙ levels-append f.answers (until_section behind) (levels_in w.comments) (levels_in f.next.comments) g.levels
        ∙ rec f g
answers-nest (byte ∷ bytes) w fresh last place (suc taken) p t n =
    answers-nest bytes w (still_fresh fresh byte) byte (place + 1) taken p t n

pub parts-nested : (text : List ℕ) (start end : ℕ) (mode : Mode) → is_c_mode mode ≡ true
    → IsNested (until_section (tokens_of text start end mode))
parts-nested text first end modes.CPart m = grind (arith, nat_tests, answers-nest)
parts-nested text first end modes.Inner m = grind (arith, nat_tests, answers-nest)
parts-nested text first end modes.Definition m = grind (arith, nat_tests, answers-nest)
parts-nested text first end _ m = absurd cc

pub c-texts-nested : (text : List ℕ) (start end : ℕ) (mode : Mode) → is_c_mode mode ≡ true
    → begins_section_in (tokens_of text start end mode) ≡ false → IsNested (tokens_of text start end mode)
c-texts-nested text first end mode m h = let P : List Answer
    → Type 0 = IsNested in subst P (until-none (tokens_of text first end mode) h) (parts-nested text first end mode m)

-- ## Texts without section codes
