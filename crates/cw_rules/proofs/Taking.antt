-- What begins at a place takes the bytes there: answers without bytes come first, and then what has them all.
use Rattle.std.proofs.Common.{◌≡◌, ℕ, suc, ◌+◌, ◌-◌, ◌<◌, Bool, true, false, ◌&&◌, not, ◌==◌, List, [], ◌∷◌, ◌++◌}
use Rattle.std.proofs.Common.{length, take, refl, ap, arith, append_assoc}
use Rattle.std.specs.Prelude.{if◌then◌else◌}
use Rattle.std.proofs.{lemmas.Bool.ltb-true, lemmas.Bool.Decides.nat_tests}
use Rattle.cw_base.proofs.TestLaws.{one-left, one-right}
use Rattle.cw_base.specs.{Bytes.newline, Bytes.backslash, Text.bar, declared.notes.NoteKind.TheVariants.ImproperFormat}
use Rattle.cw_rules.specs.declared.{bodies.NoteAt.NoteAt, classes.Class.Class, codes.Code.Code, parts.Part.Part}
use Rattle.cw_rules.specs.declared.{parts.Opened.Opened, signs.Sign.Sign}
use Rattle.cw_rules.specs.Bytes.{star, slash, at_sign, run, is_in, is_letter, is_digit, begins, equals}
use Rattle.cw_rules.specs.{Constants.constant, Answers.note_answers, Answers.dropped, Order.begins_space}
use Rattle.cw_rules.specs.{model.Apart.found_apart, model.Apart.in_text_apart, Signs.spelling}
use Rattle.cw_rules.specs.Answers.{plain, Answer, Token, Begin, Finish, Note, Seen, Where, Cut, ScanStep, before}
use Rattle.cw_rules.specs.Codes.{code_at, begins_section, has_control_text}
use Rattle.cw_rules.specs.Bodies.{stops, goes_on, extent, ended, noted}
use Rattle.cw_rules.specs.Tokens.{in_hash_line, is_space, is_deep, passed, one, skipped_byte, comment_end, inner_cut}
use Rattle.cw_rules.specs.Tokens.{comment_cut, part_cut, inner_or_none, all_cut, section, section_code, line_end}
use Rattle.cw_rules.specs.Tokens.{identifier, word, directive_at, alone_size, control_or_plain, code_token}
use Rattle.cw_rules.specs.Tokens.{dropped_code, comment_begin, inner_begin, inner_end, piece_start, piece}
use Rattle.cw_rules.specs.Tokens.{comment_closed}
use Rattle.cw_rules.proofs.{Inside.ended-some, Choices.if-both, Choices.or-false, Choices.at-byte}
use Rattle.cw_rules.specs.declared.classes.Class.TheVariants as classes
use Rattle.cw_rules.specs.declared.parts.Behind.TheVariants as behinds
use Rattle.cw_rules.specs.declared.parts.Part.TheVariants as parts
use Rattle.cw_rules.specs.declared.signs.Sign.TheVariants as signs
use Rattle.cw_rules.specs.declared.tokens.Directive.TheVariants as directives
use Rattle.cw_rules.specs.declared.tokens.TokKind.TheVariants as kinds
use Rattle.cw_rules.proofs.Rules.{IsPassed, Constant, Standing, Dropping, OfSign, CodeRule, LineEnd, Space, HashLine}
use Rattle.cw_rules.proofs.Rules.{Word, Passed, Heading, Beginning, Comment, InnerEnd, CommentRule, Closed, EndedLine}
use Rattle.cw_rules.proofs.Rules.{InnerBegin, Piece, LimboRule, LimboCode, LimboFormat, LimboDropped, LimboText}
use Rattle.cw_rules.proofs.Rules.{PartRule, OfCode, OfLimbo, TexCode, TexHeading, TexDropped, TexBeginning, TexInner}
use Rattle.cw_rules.proofs.Rules.{TexText, Blank, HeadSign, White, HeadWord, Opening, ParameterSign, Improper}
use Rattle.cw_rules.proofs.Rules.{ImproperInLimbo, within, code-rule, comment-rule, part-rule}

-- answers without bytes at a place
abbrev pub AreBare : ℕ → List Answer → Type 0
AreBare place [] = Unit {0}
AreBare place (Token t ∷ answers) = ⊥
AreBare place (Begin t ∷ answers) = ⊥
AreBare place (Finish t ∷ answers) = (t.span.start ≡ place) × (t.span.end ≡ place) × (t.text ≡ [])
    × AreBare place answers
AreBare place (Note kind about ∷ answers) = AreBare place answers

abbrev pub AreNotes : List Answer → Type 0
AreNotes [] = Unit {0}
AreNotes (Token t ∷ answers) = ⊥
AreNotes (Begin t ∷ answers) = ⊥
AreNotes (Finish t ∷ answers) = ⊥
AreNotes (Note kind about ∷ answers) = AreNotes answers

-- a token that has the first byte and so many more
pub record IsWhole (place : ℕ) (bytes : List ℕ) (more : ℕ) (t : Seen) : Type 0 where
  pub from : t.span.start ≡ place
  pub to : t.span.end ≡ (place + 1) + more
  pub slice : t.text ≡ take (suc more) bytes

-- what has all the bytes, or one byte of white space
abbrev pub TakesAll : ℕ → List ℕ → ℕ → List Answer → Type 0
TakesAll place bytes more [] = (more ≡ 0) × (begins_space bytes ≡ true)
TakesAll place bytes more (Token t ∷ answers) = IsWhole place bytes more t × AreNotes answers
TakesAll place bytes more (Begin t ∷ answers) = IsWhole place bytes more t × AreNotes answers
TakesAll place bytes more (Finish t ∷ answers) = IsWhole place bytes more t × AreNotes answers
TakesAll place bytes more (Note kind about ∷ answers) = ⊥

pub record Takes (place : ℕ) (bytes : List ℕ) (f : ScanStep) : Type 0 where
  pub first : List Answer
  pub rest : List Answer
  pub split : f.answers ≡ first ++ rest
  pub bare : AreBare place first
  pub whole : TakesAll place bytes f.more rest

notes-notes : (notes : List NoteAt) → AreNotes (note_answers notes)
notes-notes [] = tt
notes-notes (n ∷ notes) = notes-notes notes

bare-notes : (place : ℕ) (notes : List NoteAt) → AreBare place (note_answers notes)
bare-notes place [] = tt
bare-notes place (n ∷ notes) = bare-notes place notes

bare-append : (place : ℕ) (xs ys : List Answer) → AreBare place xs → AreBare place ys → AreBare place (xs ++ ys)
bare-append place [] ys h g = g
bare-append place (Finish t ∷ xs) ys h g = (h.0, h.1, h.2, bare-append place xs ys h.3 g)
bare-append place (Note kind about ∷ xs) ys h g = bare-append place xs ys h g
bare-append _ _ _ h _ = absurd h

-- a token without its bytes may show others, where these are the same
one-as : (hash_line : Bool) (next : Where) (place : ℕ) (shown bytes : List ℕ) (cut : Cut) → 0 < cut.size
    → take cut.size shown ≡ take cut.size bytes → Takes place bytes (one hash_line next place shown cut)
one-as hash_line next place shown bytes cut some same = grind (arith, nat_tests, notes-notes)

one-takes : (hash_line : Bool) (next : Where) (place : ℕ) (bytes : List ℕ) (cut : Cut) → 0 < cut.size
    → Takes place bytes (one hash_line next place bytes cut)
one-takes hash_line next place bytes cut some = one-as hash_line next place bytes bytes cut some refl

skipped-takes : (place : ℕ) (bytes : List ℕ) (w : Where) → begins_space bytes ≡ true
    → Takes place bytes (skipped_byte w)
skipped-takes place bytes w h = record { first = []; rest = []; split = refl; bare = tt; whole = (refl, h) }

before-takes : (place : ℕ) (bytes : List ℕ) (xs : List Answer) (f : ScanStep) → AreBare place xs → Takes place bytes f
    → Takes place bytes (before xs f)
before-takes place bytes xs f h g = grind (arith, nat_tests, append_assoc, bare-append)

-- ## Ends

zero-place : (place : ℕ) → place + 0 ≡ place
zero-place place = omega arith

bare-inner : (hash_line : Bool) (place about : ℕ) → AreBare place (inner_cut hash_line place about)
bare-inner hash_line place about = (refl, zero-place place, refl, tt)

bare-comment-cut : (hash_line : Bool) (c : Opened) (place about : ℕ)
    → AreBare place (comment_cut hash_line c place about)
bare-comment-cut hash_line c place about = grind (arith, nat_tests, zero-place, bare-notes)

bare-comment-end : (hash_line : Bool) (c : Opened) (place : ℕ) → AreBare place (comment_end hash_line c place 0 [])
bare-comment-end hash_line c place = grind (arith, nat_tests, zero-place, bare-notes)

bare-part-cut : (part : Part) (place about : ℕ) → AreBare place (part_cut part place about)
bare-part-cut x1 place about = grind (arith, nat_tests, bare-inner)

bare-none : (inner hash_line : Bool) (place about : ℕ) → AreBare place (inner_or_none inner hash_line place about)
bare-none x1 hash_line place about = grind (arith, nat_tests, bare-inner)

pub bare-all-cut : (part : Part) (comments : List Opened) (place about : ℕ)
    → AreBare place (all_cut part comments place about)
bare-all-cut part [] place about = bare-part-cut part place about
bare-all-cut part (c ∷ comments) place about =
    grind (arith, nat_tests, bare-all-cut part comments place about, bare-append, bare-none, bare-comment-cut)

record HasSome (cut : Cut) : Type 0 where
  is : 0 < cut.size

section-some : (bytes : List ℕ) → HasSome (section_code bytes)
section-some bytes = grind (arith, nat_tests, if-both)

section-takes : (w : Where) (place byte : ℕ) (bytes : List ℕ) → (byte == at_sign) ≡ true
    → Takes place (byte ∷ bytes) (section w place bytes)
section-takes w place byte bytes h =
    grind (arith, nat_tests, at-byte, before-takes, bare-all-cut, one-takes, section-some)

line_end-takes : (part : Part) (comments : List Opened) (last place : ℕ) (bytes : List ℕ)
    → Takes place (newline ∷ bytes) (line_end part comments last place)
line_end-takes part [] last place bytes = grind (arith, nat_tests, if-both, one-as, skipped-takes)
line_end-takes part (c ∷ comments) last place bytes =
    let hash_line = in_hash_line part in
    if-both (Takes place (newline ∷ bytes)) c.long _ _ (λ h. skipped-takes place (newline ∷ bytes)
    (record { part = part; comments = c ∷ comments }) refl) (λ h. before-takes place (newline ∷ bytes)
    (inner_cut hash_line place place ++ comment_end hash_line c place 0 []) (line_end (passed part) comments last place)
    (bare-append place (inner_cut hash_line place place) (comment_end hash_line c place 0 []) (bare-inner hash_line
    place place) (bare-comment-end hash_line c place)) (line_end-takes (passed part) comments last place bytes))

-- ## C text

run-some : (class : Class) (byte : ℕ) (bytes : List ℕ) → is_in class byte ≡ true → 0 < run class (byte ∷ bytes)
run-some class byte bytes h = grind (arith, nat_tests)

identifier-some : (byte : ℕ) (bytes : List ℕ) → is_letter byte ≡ true → 0 < (identifier (byte ∷ bytes)).size
identifier-some byte bytes h = run-some classes.Word byte bytes (one-left (is_letter byte) (is_digit byte) h)

spelling-some : (sign : Sign) → 0 < length (spelling sign)
spelling-some x1 = grind (arith, nat_tests)

alone-some : (bytes : List ℕ) → 0 < alone_size bytes
alone-some x1 = grind (arith, nat_tests)

control-some : (code : Code) (place : ℕ) (bytes : List ℕ) → HasSome (control_or_plain code place bytes)
control-some code place bytes = if-both HasSome (has_control_text code) _ _ (λ h. record { is = omega arith })
    (λ h. record { is = alone-some bytes })

code-some : (code : Code) (place : ℕ) (bytes : List ℕ) → HasSome (code_token code place bytes)
code-some code place bytes = grind (arith, nat_tests, if-both, control-some)

two : (place : ℕ) → place + 2 ≡ (place + 1) + 1
two place = omega arith

one-more : (place : ℕ) → place + 1 ≡ (place + 1) + 0
one-more place = omega arith

comment-takes : (long : Bool) (w : Where) (place : ℕ) (bytes : List ℕ)
    → Takes place bytes (comment_begin long w place bytes)
comment-takes long w place bytes = grind (arith, nat_tests, two)

begin-takes : (hash_line : Bool) (next : Where) (place : ℕ) (bytes : List ℕ)
    → Takes place bytes (inner_begin hash_line next place bytes)
begin-takes hash_line next place bytes = grind (arith, nat_tests, one-more)

end-takes : (w : Where) (place : ℕ) (bytes : List ℕ) → Takes place bytes (inner_end w place bytes)
end-takes w place bytes = grind (arith, nat_tests, one-more)

blank-space : (byte : ℕ) (bytes : List ℕ) → is_in classes.Blank byte ≡ true → begins_space (byte ∷ bytes) ≡ true
blank-space byte bytes h = grind (arith, nat_tests, one-left, one-right)

white-space : (byte : ℕ) (bytes : List ℕ) → is_in classes.White byte ≡ true → begins_space (byte ∷ bytes) ≡ true
white-space byte bytes h = one-left (is_in classes.White byte) (byte == backslash && begins newline bytes) h

space-space : (part : Part) (byte : ℕ) (bytes : List ℕ) → is_space part byte bytes ≡ true → begins_space (byte ∷ bytes)
    ≡ true
space-space part byte bytes h = grind (arith, nat_tests)

passed-some : (w : Where) (fresh : Bool) (place byte : ℕ) (bytes : List ℕ) (cut : Cut)
    → IsPassed w fresh place byte bytes cut → HasSome cut
passed-some w fresh place byte bytes _ (Constant h) = record { is = ltb-true 0 (constant (byte ∷ bytes)) h }
passed-some w fresh place byte bytes _ (Standing at e) = code-some (code_at bytes) place (byte ∷ bytes)
passed-some w fresh place byte bytes _ (Dropping note at e) =
    record { is = (control-some (code_at bytes) place (byte ∷ bytes)).is }
passed-some w fresh place byte bytes _ (OfSign sign e b) = record { is = spelling-some sign }
passed-some w fresh place byte bytes _ _ = record { is = omega arith }

code-takes : (w : Where) (fresh : Bool) (last place byte : ℕ) (bytes : List ℕ) (f : ScanStep)
    → CodeRule w fresh last place byte bytes f → Takes place (byte ∷ bytes) f
code-takes w fresh last place byte bytes _ (LineEnd h) = at-byte (λ b. Takes place (b ∷ bytes)
    (line_end w.part w.comments last place)) byte newline h (line_end-takes w.part w.comments last place bytes)
code-takes w fresh last place byte bytes _ (Space line h) =
    skipped-takes place (byte ∷ bytes) w (space-space w.part byte bytes h)
code-takes w fresh last place byte bytes _ (Word bare h) = one-takes _ _ place (byte ∷ bytes)
    (word (directive_at w.part (byte ∷ bytes)) (byte ∷ bytes)) (identifier-some byte bytes h)
code-takes w fresh last place byte bytes _ (Passed cut p) =
    one-takes _ _ place (byte ∷ bytes) cut (passed-some w fresh place byte bytes cut p).is
code-takes w fresh last place byte bytes _ (Heading at e name may headed) = one-takes _ _ place (byte ∷ bytes)
    (code_token (code_at bytes) place (byte ∷ bytes)) (code-some (code_at bytes) place (byte ∷ bytes)).is
code-takes w fresh last place byte bytes _ (Comment long h) = comment-takes long w place (byte ∷ bytes)
code-takes w fresh last place byte bytes _ (InnerEnd h ends) = end-takes w place (byte ∷ bytes)
code-takes w fresh last place byte bytes _ (HashLine h takes first) =
    one-takes true _ place (byte ∷ bytes) (plain kinds.HashLine 1) (omega arith)
code-takes w fresh last place byte bytes _ (Beginning effect part at e begun) =
    one-takes false _ place (byte ∷ bytes) (plain (kinds.Code (code_at bytes)) 2) (omega arith)

-- ## Comments

long-or-line : (long closes line : Bool) → (long && closes) ≡ false → (not long && line) ≡ false
    → (if long then closes else line) ≡ false
long-or-line x1 closes line h g = grind (arith, nat_tests)

piece-takes : (part : Part) (comments : List Opened) (c : Opened) (place byte : ℕ) (bytes : List ℕ)
    → (byte == at_sign && begins_section bytes) ≡ false → (c.long && (byte == star && begins slash bytes)) ≡ false
    → (not c.long && byte == newline) ≡ false → (byte == bar && not (is_deep part (c ∷ comments))) ≡ false
    → Takes place (byte ∷ bytes) (piece part comments c place (byte ∷ bytes))
piece-takes part comments c place byte bytes section closes line opens =
    let i = piece_start part comments c place in
    let stays : stops i.body 0 byte bytes ≡ false = grind (arith, nat_tests, or-false, long-or-line) in
    let on : goes_on i (byte ∷ bytes) ≡ true = ap not stays in
    let far : place < (ended i (byte ∷ bytes)).place = ended-some i (byte ∷ bytes) on in
    let some : 0 < ((ended i (byte ∷ bytes)).place - place) + 0 = omega arith in
    one-takes (in_hash_line part) _ place (byte ∷ bytes)
    (record {
      kind = kinds.Text;
      directive = directives.No;
      size = (extent i (byte ∷ bytes)).size;
      notes = noted i
          (byte ∷ bytes);
    }) some

closed-takes : (part : Part) (c : Opened) (comments : List Opened) (place : ℕ) (bytes : List ℕ)
    → Takes place bytes (comment_closed part c comments place bytes)
closed-takes part c comments place bytes = grind (arith, nat_tests, two, notes-notes)

comment-text-takes : (part : Part) (c : Opened) (comments : List Opened) (last place byte : ℕ) (bytes : List ℕ)
    → (byte == at_sign && begins_section bytes) ≡ false → (f : ScanStep)
    → CommentRule part c comments last place byte bytes f → Takes place (byte ∷ bytes) f
comment-text-takes part c comments last place byte bytes section _ (Closed long h) =
    closed-takes part c comments place (byte ∷ bytes)
comment-text-takes part c comments last place byte bytes section _ (EndedLine short h) = at-byte (λ b. Takes place
    (b ∷ bytes) (before (comment_end (in_hash_line part) c place 0 []) (line_end part comments last place))) byte
    newline h (before-takes place (newline ∷ bytes) (comment_end (in_hash_line part) c place 0 []) (line_end part
    comments last place) (bare-comment-end (in_hash_line part) c place) (line_end-takes part comments last place bytes))
comment-text-takes part c comments last place byte bytes section _ (InnerBegin h deep) =
    begin-takes (in_hash_line part) _ place (byte ∷ bytes)
comment-text-takes part c comments last place byte bytes section _ (Piece closes line opens) =
    piece-takes part comments c place byte bytes section closes line opens

-- ## Limbo, TeX text and heads

code-as : (hash_line : Bool) (next : Where) (code : Code) (place : ℕ) (bytes : List ℕ)
    → Takes place bytes (one hash_line next place bytes (code_token code place bytes))
code-as hash_line next code place bytes =
    one-takes hash_line next place bytes (code_token code place bytes) (code-some code place bytes).is

limbo-takes : (place byte : ℕ) (bytes : List ℕ) (f : ScanStep) → LimboRule place byte bytes f
    → Takes place (byte ∷ bytes) f
limbo-takes place byte bytes _ (LimboCode at e) = code-as false _ (code_at bytes) place (byte ∷ bytes)
limbo-takes place byte bytes _ (LimboFormat at e) =
    one-takes false _ place (byte ∷ bytes) (plain (kinds.Code (code_at bytes)) 2) (omega arith)
limbo-takes place byte bytes _ (LimboDropped note at e) = one-takes false _ place (byte ∷ bytes)
    (dropped note place (plain (kinds.Code (code_at bytes)) (alone_size (byte ∷ bytes)))) (alone-some (byte ∷ bytes))
limbo-takes place byte bytes _ (LimboText h) = one-takes false _ place (byte ∷ bytes)
    (plain kinds.Text (run classes.LimboText (byte ∷ bytes))) (run-some classes.LimboText byte bytes (ap not h))

part-takes : (fresh : Bool) (last place byte : ℕ) (bytes : List ℕ) (part : Part) (f : ScanStep)
    → PartRule fresh last place byte bytes part f → Takes place (byte ∷ bytes) f
part-takes fresh last place byte bytes _ _ (OfCode part f is r) =
    code-takes (within part) fresh last place byte bytes f r
part-takes fresh last place byte bytes _ _ (OfLimbo f r) = limbo-takes place byte bytes f r
part-takes fresh last place byte bytes _ _ (TexCode at e) = code-as false _ (code_at bytes) place (byte ∷ bytes)
part-takes fresh last place byte bytes _ _ (TexHeading at e name headed) =
    code-as false _ (code_at bytes) place (byte ∷ bytes)
part-takes fresh last place byte bytes _ _ (TexDropped note at e) = one-takes false _ place (byte ∷ bytes)
    (dropped_code note (code_at bytes) place (byte ∷ bytes)) (control-some (code_at bytes) place (byte ∷ bytes)).is
part-takes fresh last place byte bytes _ _ (TexBeginning effect part at e begun) =
    one-takes false _ place (byte ∷ bytes) (plain (kinds.Code (code_at bytes)) 2) (omega arith)
part-takes fresh last place byte bytes _ _ (TexInner h) = begin-takes false _ place (byte ∷ bytes)
part-takes fresh last place byte bytes _ _ (TexText at h) =
    one-takes false _ place (byte ∷ bytes) (plain kinds.Text (run classes.TexText (byte ∷ bytes)))
    (run-some classes.TexText byte bytes (ap not (or-false (byte == at_sign) (byte == bar) at h)))
part-takes fresh last place byte bytes _ _ (Blank h) =
    skipped-takes place (byte ∷ bytes) (within parts.Head) (blank-space byte bytes h)
part-takes fresh last place byte bytes _ _ (HeadSign h) = if-both (λ n. Takes place (byte ∷ bytes)
    (one false (within (parts.Plain false behinds.Other)) place (byte ∷ bytes) (plain kinds.HeadSign n)))
    (begins equals bytes) 2 1 (λ h. one-takes false _ place (byte ∷ bytes) (plain kinds.HeadSign 2) (omega arith))
    (λ h. one-takes false _ place (byte ∷ bytes) (plain kinds.HeadSign 1) (omega arith))
part-takes fresh last place byte bytes _ _ (White part h wanted) =
    skipped-takes place (byte ∷ bytes) (within part) (white-space byte bytes h)
part-takes fresh last place byte bytes _ _ (HeadWord part next h k) =
    one-takes false _ place (byte ∷ bytes) (identifier (byte ∷ bytes)) (identifier-some byte bytes h)
part-takes fresh last place byte bytes _ _ (Opening code) =
    one-takes false _ place (byte ∷ bytes) (plain (kinds.Sign signs.LeftParen) 1) (omega arith)
part-takes fresh last place byte bytes _ _ (ParameterSign code sign next k) =
    one-takes false _ place (byte ∷ bytes) (plain (kinds.Sign sign) (length (spelling sign))) (spelling-some sign)
part-takes fresh last place byte bytes _ _ (Improper part kind code f i r) = before-takes place (byte ∷ bytes)
    (Note kind code ∷ []) f tt (code-takes (within parts.Definition) fresh last place byte bytes f r)
part-takes fresh last place byte bytes _ _ (ImproperInLimbo code second f r) =
    before-takes place (byte ∷ bytes) (Note ImproperFormat code ∷ []) f tt (limbo-takes place byte bytes f r)

-- ## Any text

in_text-takes : (part : Part) (comments : List Opened) (fresh : Bool) (last place byte : ℕ) (bytes : List ℕ)
    → (byte == at_sign && begins_section bytes) ≡ false
    → Takes place (byte ∷ bytes) (in_text_apart part comments fresh last place byte bytes)
in_text-takes part [] fresh last place byte bytes h =
    part-takes fresh last place byte bytes part _ (part-rule fresh last place byte bytes part)
in_text-takes part (c ∷ comments) fresh last place byte bytes h =
    let w : Where = record { part = part; comments = c ∷ comments } in
    if-both (Takes place (byte ∷ bytes)) c.inner _ _ (λ e. code-takes w fresh last place byte bytes _
    (code-rule w fresh last place byte bytes)) (λ e. comment-text-takes part c comments last place byte bytes h _
    (comment-rule part c comments last place byte bytes))

pub found-takes : (w : Where) (fresh : Bool) (last place byte : ℕ) (bytes : List ℕ)
    → Takes place (byte ∷ bytes) (found_apart w fresh last place byte bytes)
found-takes w fresh last place byte bytes = if-both (Takes place (byte ∷ bytes)) (byte == at_sign && begins_section
    bytes) _ _ (λ h. section-takes w place byte bytes (and-first (byte == at_sign) (begins_section bytes) h))
    (λ h. in_text-takes w.part w.comments fresh last place byte bytes h)
  where
    and-first : (a b : Bool) → (a && b) ≡ true → a ≡ true
    and-first a b h = grind (arith, nat_tests)
