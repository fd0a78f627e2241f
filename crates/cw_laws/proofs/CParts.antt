-- In a C part an identifier begins no string; outside its comments a `#` that is the first byte of its line but for
-- blanks begins a `#` line; the tokens of these lines are marked, and include names stand behind their word `include`.
use Rattle.std.proofs.Common.{◌≡◌, ℕ, zero, suc, ◌+◌, ◌-◌, ◌≤◌, Bool, true, false, ◌&&◌, ◌||◌, not, ◌==◌, nat_lt, List}
use Rattle.std.proofs.Common.{[], ◌∷◌, ◌++◌, if◌then◌else◌, drop, take, length, refl, sym, ap, subst, ◌∙◌, arith}
use Rattle.std.proofs.Common.{append_assoc}
use Rattle.std.proofs.{lemmas.List.append-nil, lemmas.Bool.Decides.nat_tests}
use Rattle.cw_base.proofs.TestLaws.{both-failed, both-left, not-both, or-true}
use Rattle.cw_base.specs.{Bytes.backslash, declared.notes.NoteKind.NoteKind}
use Rattle.cw_rules.specs.declared.{bodies.NoteAt.NoteAt, codes.Code.Code, codes.Effect.Effect, parts.Part.Part}
use Rattle.cw_rules.specs.declared.{parts.Opened.Opened, signs.Sign.Sign, tokens.TokKind.TokKind}
use Rattle.cw_rules.specs.Answers.{Answer, Where, Cut, ScanStep, note_answers, plain}
use Rattle.cw_rules.specs.model.Apart.{part_text_apart, in_text_apart, found_apart}
use Rattle.cw_rules.specs.Bodies.{ended, extent, noted, note_unless, one_note}
use Rattle.cw_rules.specs.Bytes.{apostrophe, at_sign, equals, hash, less, begins, begins_with, is_in}
use Rattle.cw_rules.specs.Codes.{begins_section, code_at, effect_in_c, effect_at_begin, has_control_text}
use Rattle.cw_rules.specs.{Prefixes.prefix_size, Signs.all_signs, Signs.spelling}
use Rattle.cw_rules.specs.Tokens.{all_cut, alone_size, behind_include, behind_word, closes_on_line, code_token}
use Rattle.cw_rules.specs.Tokens.{comment_begin, control_or_plain, control_text, effect_in, ends_at_bar, directive_at}
use Rattle.cw_rules.specs.Tokens.{word, in_hash_line, include_name, inner_end, is_include, is_name, is_quote, line_end}
use Rattle.cw_rules.specs.Tokens.{may_head, moved, one, passed, piece_start, section, section_code, section_name}
use Rattle.cw_rules.specs.Tokens.{string, comment_cut, inner_or_none, part_cut, takes_hash_line}
use Rattle.cw_rules.proofs.Choices.{if-both}
use Rattle.cw_rules.proofs.Rules.{IsAlone, CPart, IsPassed, IncludeName, OfSign, Standing, CodeRule, LineEnd, Space}
use Rattle.cw_rules.proofs.Rules.{HashLine, Word, Passed, Heading, Beginning, Comment, InnerEnd, CommentRule, Closed}
use Rattle.cw_rules.proofs.Rules.{EndedLine, InnerBegin, Piece, within, code-rule, comment-rule}
use Rattle.cw_lex.specs.Lexing.{still_fresh, answers, beginning, fresh_after, fresh_at, last_at, tokens_of}
use Rattle.cw_lex.specs.Nested.{is_section_kind}
use Rattle.cw_lex.proofs.{Covering.drop-on, Nesting.section-kind, Walk.fresh-more}
use Rattle.cw_laws.specs.{Longest.AllFitC, Longest.FitsC, Longest.names_file, WhiteSpace.hash_line_by}
use Rattle.cw_laws.proofs.LongestSigns.{Fits, longest-fits}
use Rattle.cw_rules.specs.declared.classes.Class.TheVariants as classes
use Rattle.cw_rules.specs.declared.codes.Code.TheVariants as code
use Rattle.cw_rules.specs.declared.codes.Effect.TheVariants as effects
use Rattle.cw_rules.specs.declared.parts.Behind.TheVariants as behinds
use Rattle.cw_rules.specs.declared.parts.Part.TheVariants as parts
use Rattle.cw_rules.specs.declared.signs.Sign.TheVariants as signs
use Rattle.cw_rules.specs.declared.tokens.Mode.TheVariants as modes
use Rattle.cw_rules.specs.declared.tokens.Directive.TheVariants as directives
use Rattle.cw_rules.specs.declared.tokens.TokKind.TheVariants as kinds

-- ## How much is open

-- at least so many comments and inner texts
abbrev opens : List Opened → ℕ
opens [] = 0
opens (c ∷ comments) = (if c.inner then 2 else 1) + (length comments + length comments)

-- the same where C text stands in the innermost comment, as in all others
abbrev twice : List Opened → ℕ
twice comments = length comments + length comments

opens-twice : (comments : List Opened) (depth : ℕ) → twice comments ≤ depth → opens comments ≤ depth
opens-twice [] depth h = omega arith
opens-twice (c ∷ comments) depth h = by c.inner
  where
    by : (t : Bool) → (if t then 2 else 1) + (length comments + length comments) ≤ depth
    by t = grind (arith, nat_tests)

opens-with : (c : Opened) (comments : List Opened) (depth : ℕ) (inner : Bool) → c.inner ≡ inner
    → opens (c ∷ comments) ≤ depth → (if inner then 2 else 1) + twice comments ≤ depth
opens-with c comments depth inner e h = subst (λ t. (if t then 2 else 1) + twice comments ≤ depth) e h

-- ## The parts of a C part

abbrev is_text : Part → Bool
is_text parts.Begin = true
is_text (parts.Plain hash_line behind) = true
is_text part = false

abbrev is_part : Part → List Opened → Bool
is_part parts.Head [] = true
is_part part comments = is_text part

-- Directly behind the word `include` no comment's text stands.
abbrev AreQuiet : Bool → List Opened → Type 0
AreQuiet named [] = Unit {0}
AreQuiet named (c ∷ comments) = c.inner ≡ false → named ≡ false

quiet-none : (comments : List Opened) → AreQuiet false comments
quiet-none [] = tt
quiet-none (c ∷ comments) = λ h. refl

-- C text stands in the innermost comment
abbrev IsInner : List Opened → Type 0
IsInner [] = Unit {0}
IsInner (c ∷ comments) = c.inner ≡ true

quiet-inner : (named : Bool) (comments : List Opened) → IsInner comments → AreQuiet named comments
quiet-inner named [] h = tt
quiet-inner named (c ∷ comments) h = λ k. not-both c.inner h k

-- The scanner has a `#` line where the answers have one, and stands behind its word `include` where they do.
record Stands (line named : Bool) (part : Part) (comments : List Opened) : Type 0 where
  c : is_part part comments ≡ true
  hash_line : in_hash_line part ≡ line
  include : behind_include part ≡ named
  quiet : AreQuiet named comments

record InText (line named : Bool) (part : Part) : Type 0 where
  c : is_text part ≡ true
  hash_line : in_hash_line part ≡ line
  include : behind_include part ≡ named

text-part : (part : Part) (comments : List Opened) → is_text part ≡ true → is_part part comments ≡ true
text-part parts.Begin comments h = refl
text-part (parts.Plain hash_line behind) comments h = refl
text-part parts.Head comments h = absurd cc
text-part _ comments h = h

text-stands : (line named : Bool) (part : Part) (comments : List Opened) → InText line named part
    → AreQuiet named comments → Stands line named part comments
text-stands line named part comments s q =
    record { c = text-part part comments s.c; hash_line = s.hash_line; include = s.include; quiet = q }

behind-stands : (line : Bool) (part : Part) (comments : List Opened) → InText line false part
    → Stands line false part comments
behind-stands line part comments s = text-stands line false part comments s (quiet-none comments)

passed-text : (line named : Bool) (part : Part) → InText line named part → InText line false (passed part)
passed-text line named parts.Begin s = record { c = refl; hash_line = s.hash_line; include = refl }
passed-text line named (parts.Plain hash_line behind) s = record { c = refl; hash_line = s.hash_line; include = refl }
passed-text line named _ s = not-both false s.c refl

plain-text : (line : Bool) → false ≡ line → InText line false (parts.Plain false behinds.Other)
plain-text line e = record { c = refl; hash_line = e; include = refl }

head-stands : (line named : Bool) (part : Part) (comments : List Opened) → InText line named part
    → may_head part comments ≡ true → Stands line false parts.Head comments
head-stands line named parts.Begin [] k h = record { c = refl; hash_line = k.hash_line; include = refl; quiet = tt }
head-stands line named parts.Begin (c ∷ comments) k h = absurd cc
head-stands line named (parts.Plain hash_line behind) comments k h = absurd cc
head-stands line named _ comments k h = not-both false k.c refl

-- No definition begins in a C part, and no C part in a `#` line.
abbrev BeginsNone : Bool → Effect → Type 0
BeginsNone line effects.Defines = ⊥
BeginsNone line effects.Formats = ⊥
BeginsNone line effects.BeginsC = line ≡ false
BeginsNone line effect = Unit {0}

c-none : (line : Bool) (c : Code) → BeginsNone line (effect_in_c c)
c-none line code.Define = tt
c-none line _ = tt

begin-none : (c : Code) → BeginsNone false (effect_at_begin c)
begin-none c = grind (arith, nat_tests, c-none)

none-in : (part : Part) (comments : List Opened) (c : Code) → is_text part ≡ true
    → BeginsNone (in_hash_line part) (effect_in part comments c)
none-in parts.Begin [] c h = begin-none c
none-in parts.Begin (d ∷ comments) c h = c-none false c
none-in (parts.Plain hash_line behind) comments c h = c-none hash_line c
none-in _ comments c h = absurd cc

-- Where a `#` begins no `#` line, one goes on already.
goes-on-already : (part : Part) (comments : List Opened) (fresh line named : Bool) → InText line named part
    → opens comments ≤ 0 → (takes_hash_line part comments && fresh) ≡ false → fresh ≡ true → line ≡ true
goes-on-already parts.Begin [] fresh line named s o h f = not-both fresh f h
goes-on-already (parts.Plain true include) [] fresh line named s o h f = sym s.hash_line
goes-on-already (parts.Plain false include) [] fresh line named s o h f = not-both fresh f h
goes-on-already part (c ∷ comments) fresh line named s o h f = absurd (by c.inner o)
  where
    by : (t : Bool) → (if t then 2 else 1) + (length comments + length comments) ≤ 0 → ⊥
    by t o = grind (arith, nat_tests)
goes-on-already _ [] fresh line named s o h f = not-both false s.c refl

no-part-cut : (part : Part) (comments : List Opened) (place about : ℕ) → is_part part comments ≡ true
    → part_cut part place about ≡ []
no-part-cut parts.Begin comments place about h = refl
no-part-cut (parts.Plain hash_line behind) comments place about h = refl
no-part-cut parts.Head comments place about h = refl
no-part-cut _ comments place about h = not-both false h refl

or-same : (b : Bool) → (b || b) ≡ b
or-same true = refl
or-same false = refl

none-below : (n : ℕ) → nat_lt 0 n ≡ false → n ≡ 0
none-below n h = grind arith

or-ends : (line : Bool) → line ≡ true → true ≡ (line || false)
or-ends line h = sym (ap (λ l. l || false) h)

-- ## Kinds

-- a kind of which nothing is said, and with which no `#` line begins or ends
record IsQuiet (kind : TokKind) : Type 0 where
  line : (line : Bool) → hash_line_by line kind ≡ line
  file : (line : Bool) (bytes : List ℕ) → names_file line bytes kind ≡ false
  other : (line named : Bool) (depth : ℕ) (before bytes : List ℕ) → FitsC line named depth before bytes kind

code-quiet : (c : Code) → IsQuiet (kinds.Code c)
code-quiet c = record { line = λ line. refl; file = λ line bytes. refl; other = λ line named depth before bytes. tt }

token-quiet : (c : Code) (place : ℕ) (bytes : List ℕ) → IsQuiet (code_token c place bytes).kind
token-quiet c place bytes =
    let P : Cut → Type 0 = λ c. IsQuiet c.kind in
    let quiet = code-quiet c in
    if-both P (is_name c) (section_name c place bytes) _ (λ h. quiet) (λ h. if-both P (is_quote c) (string (kinds.Code
    c) 2 apostrophe place bytes) (control_or_plain c place bytes) (λ h. quiet) (λ h. if-both P (has_control_text c)
    (control_text c place bytes) (plain (kinds.Code c) (alone_size bytes)) (λ h. quiet) (λ h. quiet)))

module _ (text : List ℕ) where
  abbrev Signs : Bool → Bool → ℕ → List Answer → Type 0
  Signs line named depth answers = AllFitC text line named depth answers

  abbrev Follows : ScanStep → List Answer → Type 0
  Follows f later = (line named : Bool) (depth : ℕ) → opens f.next.comments ≤ depth
      → Stands line named f.next.part f.next.comments → Signs line named depth later

  -- In what begins at a place it is so, if it is in what follows.
  abbrev Goes : Bool → Bool → ℕ → ScanStep → Type 0
  Goes line named depth f = (later : List Answer) → Follows f later → Signs line named depth (f.answers ++ later)

  notes-so : (line named : Bool) (depth : ℕ) (ns : List NoteAt) (later : List Answer) → Signs line named depth later
      → Signs line named depth (note_answers ns ++ later)
  notes-so line named depth [] later h = h
  notes-so line named depth (n ∷ ns) later h = notes-so line named depth ns later h

  notes-between : (line named : Bool) (depth : ℕ) (ns : List NoteAt) (ys later : List Answer)
      → Signs line named depth (ys ++ later) → Signs line named depth ((note_answers ns ++ ys) ++ later)
  notes-between line named depth [] ys later h = h
  notes-between line named depth (n ∷ ns) ys later h = notes-between line named depth ns ys later h

  abbrev missing : Opened → ℕ → List NoteAt
  missing c place = one_note (note_unless (c.braces == 0) NoteKind.MissingBrace place)

  one-goes : (line named : Bool) (depth : ℕ) (hash_line : Bool) (next : Where) (place : ℕ) (bytes : List ℕ) (cut : Cut)
      → hash_line ≡ (line || hash_line_by line cut.kind) → opens next.comments ≤ depth → Stands (hash_line_by line
      cut.kind) (names_file line (drop place text) cut.kind) next.part next.comments → FitsC line named depth
      (take place text) (drop place text) cut.kind → Goes line named depth (one hash_line next place bytes cut)
  one-goes line named depth hash_line next place bytes cut m o s h later rest = λ plain. (
    m,
    h,
    notes-so (hash_line_by line cut.kind) (names_file line (drop place text) cut.kind) depth cut.notes later
        (rest (hash_line_by line cut.kind) (names_file line (drop place text) cut.kind) depth o s),
  )

  quiet-goes : (line named : Bool) (depth : ℕ) (hash_line : Bool) (next : Where) (place : ℕ) (bytes : List ℕ)
      (cut : Cut) → hash_line ≡ line → opens next.comments ≤ depth → Stands line false next.part next.comments
      → IsQuiet cut.kind → Goes line named depth (one hash_line next place bytes cut)
  quiet-goes line named depth hash_line next place bytes cut m o s q = one-goes line named depth hash_line next place
      bytes cut (m ∙ sym (ap (λ l. line || l) (q.line line) ∙ or-same line)) o
      (subst (λ l. Stands l (names_file line (drop place text) cut.kind) next.part next.comments) (sym (q.line line))
      (subst (λ n. Stands line n next.part next.comments) (sym (q.file line (drop place text))) s))
      (q.other line named depth (take place text) (drop place text))

  -- what is open ends
  cut-so : (part : Part) (comments : List Opened) (place about : ℕ) (line named : Bool) (depth : ℕ)
      (later : List Answer) → in_hash_line part ≡ line → part_cut part place about ≡ [] → ((named : Bool) (depth : ℕ)
      → Signs line named depth later) → Signs line named depth (all_cut part comments place about ++ later)
  cut-so part [] place about line named depth later m none rest =
      subst (λ l. Signs line named depth (l ++ later)) (sym none) (rest named depth)
  cut-so part (c ∷ comments) place about line named depth later m none rest =
      by c.inner (λ depth. cut-so part comments place about line false depth later m none rest)
    where
      by : (inner : Bool) → ((depth : ℕ) → Signs line false depth (all_cut part comments place about ++ later))
          → Signs line named depth ((inner_or_none inner (in_hash_line part) place about
          ++ (comment_cut (in_hash_line part) c place about ++ all_cut part comments place about)) ++ later)
      by inner more = grind (arith, nat_tests, notes-between)

  -- behind a section code nothing is said
  section-goes : (w : Where) (place : ℕ) (bytes : List ℕ) (line named : Bool) (depth : ℕ)
      → Stands line named w.part w.comments → Goes line named depth (section w place bytes)
  section-goes w place bytes line named depth k later rest =
      let cut = section_code (at_sign ∷ bytes) in
      let tex : Where = record { part = parts.Tex; comments = [] } in
      let token : ScanStep = one false tex place (at_sign ∷ bytes) cut in
      subst (Signs line named depth) (sym (append_assoc (all_cut w.part w.comments place place) token.answers later))
      (cut-so w.part w.comments place place line named depth (token.answers ++ later) k.hash_line
      (no-part-cut w.part w.comments place place k.c)
      (λ named depth plain. not-both (is_section_kind cut.kind) (section-kind (at_sign ∷ bytes)).is plain))

  -- ## C text

  line-end-goes : (part : Part) (comments : List Opened) (last place : ℕ) (line named : Bool) (depth : ℕ)
      → InText line named part
      → AreQuiet named comments → twice comments ≤ depth → Goes line named depth (line_end part comments last place)
  line-end-goes part [] last place line named depth k q o = if-both (Goes line named depth)
      (in_hash_line part && not (last == backslash)) _ _ (λ h later rest plain. (
        or-ends line (sym k.hash_line ∙ both-left (in_hash_line part) (not (last == backslash)) h),
        tt,
        rest false false depth (omega arith) (behind-stands false (parts.Plain false behinds.Other) [] (plain-text
            false refl)),
      )) (λ h later rest. rest line named depth (omega arith) (text-stands line named part [] k tt))
  line-end-goes part (c ∷ comments) last place line named depth k q o =
      let more = line_end (passed part) comments last place in
      if-both (Goes line named depth) c.long _ _ (λ h later rest. rest line named depth
      (opens-twice (c ∷ comments) depth o) (text-stands line named part (c ∷ comments) k q)) (λ h later rest. (
        k.hash_line,
        (
          k.hash_line,
          notes-between line false ((depth - 1) - 1) (missing c place) more.answers later
              (line-end-goes (passed part) comments last place line false ((depth - 1) - 1)
              (passed-text line named part k) (quiet-none comments) (omega arith) later rest),
        ),
      ))

  moved-goes : (w : Where) (line named : Bool) (depth : ℕ) (hash_line : Bool) (part : Part) (place : ℕ) (bytes : List ℕ)
      (cut : Cut) → hash_line ≡ line → InText line false part → twice w.comments ≤ depth → IsQuiet cut.kind
      → Goes line named depth (one hash_line (moved w part) place bytes cut)
  moved-goes w line named depth hash_line part place bytes cut m k o q = quiet-goes line named depth hash_line
      (moved w part) place bytes cut m (opens-twice w.comments depth o) (behind-stands line part w.comments k) q

  begins-none : (w : Where) (code : Code) (effect : Effect) → is_text w.part ≡ true
      → effect_in w.part w.comments code ≡ effect → BeginsNone (in_hash_line w.part) effect
  begins-none w code effect c e = subst (BeginsNone (in_hash_line w.part)) e (none-in w.part w.comments code c)

  begin-goes : (long : Bool) (w : Where) (place : ℕ) (bytes : List ℕ) (line named : Bool) (depth : ℕ)
      → InText line named w.part → twice w.comments ≤ depth → Goes line named depth (comment_begin long w place bytes)
  begin-goes long w place bytes line named depth k o later rest = (
    k.hash_line,
    rest line false (depth + 1) (omega arith) (behind-stands line (passed w.part) _ (passed-text line named w.part k)),
  )

  inner-end-goes : (part : Part) (comments : List Opened) (place : ℕ) (bytes : List ℕ) (line named : Bool) (depth : ℕ)
      → InText line named part → twice comments ≤ depth → ends_at_bar part comments ≡ true
      → Goes line named depth (inner_end (record { part = part; comments = comments }) place bytes)
  inner-end-goes part comments place bytes line named depth k o h later rest =
      grind (arith, nat_tests, not-both, behind-stands, passed-text)

  sign-says : (w : Where) (fresh : Bool) (place byte : ℕ) (bytes : List ℕ) (line named : Bool) (depth : ℕ) → drop place
      text ≡ byte ∷ bytes → fresh_at text place ≡ fresh → InText line named w.part → twice w.comments ≤ depth
      → IsAlone w fresh byte bytes → (sign : Sign) → begins_with (spelling sign) (byte ∷ bytes) ≡ true
      → FitsC line named depth (take place text) (drop place text) (kinds.Sign sign)
  sign-says w fresh place byte bytes line named depth here f k o b signs.Hash e = λ none first. goes-on-already w.part
      w.comments fresh line named k (subst (λ d. opens w.comments ≤ d) none (opens-twice w.comments depth o))
      (both-failed (byte == hash) (takes_hash_line w.part w.comments && fresh) b.hash (both-left (byte == hash) true e))
      (sym f ∙ first)
  sign-says w fresh place byte bytes line named depth here f k o b signs.Less e = λ n. ap (λ l. closes_on_line
      (drop 1 l)) here ∙ both-failed (behind_include w.part) (closes_on_line bytes) (both-failed (byte == less)
      (behind_include w.part && closes_on_line bytes) b.less (both-left (byte == less) true e)) (k.include ∙ n)
  sign-says w fresh place byte bytes line named depth here f k o b _ e = tt

  passed-goes : (w : Where) (fresh : Bool) (place byte : ℕ) (bytes : List ℕ) (line named : Bool) (depth : ℕ)
      → drop place text ≡ byte ∷ bytes → fresh_at text place ≡ fresh → InText line named w.part
      → twice w.comments ≤ depth → (cut : Cut) → IsPassed w fresh place byte bytes cut
      → Goes line named depth (one (in_hash_line w.part) (moved w (passed w.part)) place (byte ∷ bytes) cut)
  passed-goes w fresh place byte bytes line named depth here f k o _ (IncludeName h behind closes) =
      one-goes line named depth (in_hash_line w.part) (moved w (passed w.part)) place (byte ∷ bytes)
      (include_name place (byte ∷ bytes)) (k.hash_line ∙ sym (or-same line)) (opens-twice w.comments depth o)
      (behind-stands line (passed w.part) w.comments (passed-text line named w.part k)) (sym k.include ∙ behind)
  passed-goes w fresh place byte bytes line named depth here f k o _ (OfSign sign e b) = one-goes line named depth
      (in_hash_line w.part) (moved w (passed w.part)) place (byte ∷ bytes) (plain (kinds.Sign sign)
      (length (spelling sign))) (k.hash_line ∙ sym (or-same line)) (opens-twice w.comments depth o)
      (behind-stands line (passed w.part) w.comments (passed-text line named w.part k)) (sign-says w fresh place byte
      bytes line named depth here f k o b sign (subst (Fits (byte ∷ bytes)) e (longest-fits all_signs (byte ∷ bytes))))
  passed-goes w fresh place byte bytes line named depth here f k o _ (Standing at e) = moved-goes w line named depth
      (in_hash_line w.part) (passed w.part) place (byte ∷ bytes) (code_token (code_at bytes) place (byte ∷ bytes))
      k.hash_line (passed-text line named w.part k) o (token-quiet (code_at bytes) place (byte ∷ bytes))
  passed-goes w fresh place byte bytes line named depth here f k o cut _ = moved-goes w line named depth
      (in_hash_line w.part) (passed w.part) place (byte ∷ bytes) cut k.hash_line (passed-text line named w.part k) o
      (record { line = λ line. refl; file = λ line bytes. refl; other = λ line named depth before bytes. tt })

  word-goes : (w : Where) (place byte : ℕ) (bytes : List ℕ) (line named : Bool) (depth : ℕ)
      → drop place text ≡ byte ∷ bytes → InText line named w.part → twice w.comments ≤ depth → IsInner w.comments
      → nat_lt 0 (prefix_size (byte ∷ bytes)) ≡ false → Goes line named depth (one (in_hash_line w.part)
      (moved w (behind_word w.part (byte ∷ bytes))) place (byte ∷ bytes)
      (word (directive_at w.part (byte ∷ bytes)) (byte ∷ bytes)))
  word-goes w place byte bytes line named depth here k o q bare =
      let all = byte ∷ bytes in
      let hash_line = in_hash_line w.part in
      let same : (hash_line && is_include all) ≡ (line && is_include (drop place text)) = grind (arith, nat_tests) in
      one-goes line named depth hash_line (moved w (behind_word w.part all)) place all
      (word (directive_at w.part all) all) (k.hash_line
      ∙ sym (or-same line)) (opens-twice w.comments depth o) (text-stands line (line && is_include (drop place text))
      (behind_word w.part all) w.comments (if-both (InText line (line && is_include (drop place text)))
      (hash_line && is_include all) (parts.Plain true behinds.Include) (passed w.part) (λ h. record {
        c = refl;
        hash_line = sym (both-left hash_line (is_include all) h) ∙ k.hash_line;
        include = sym h ∙ same;
      }) (λ h. subst (λ n. InText line n (passed w.part)) (sym h ∙ same) (passed-text line named w.part k)))
      (quiet-inner (line && is_include (drop place text)) w.comments q)) (ap prefix_size here
      ∙ none-below (prefix_size all) bare)

  code-goes : (w : Where) (fresh : Bool) (last place byte : ℕ) (bytes : List ℕ) (line named : Bool) (depth : ℕ)
      → drop place text ≡ byte ∷ bytes → fresh_at text place ≡ fresh → InText line named w.part → twice w.comments ≤
      depth → IsInner w.comments → (f : ScanStep) → CodeRule w fresh last place byte bytes f → Goes line named depth f
  code-goes w fresh last place byte bytes line named depth here f k o q _ (LineEnd h) =
      line-end-goes w.part w.comments last place line named depth k (quiet-inner named w.comments q) o
  code-goes w fresh last place byte bytes line named depth here f k o q _ (Space end h) = λ later rest.
      rest line named depth (opens-twice w.comments depth o)
      (text-stands line named w.part w.comments k (quiet-inner named w.comments q))
  code-goes w fresh last place byte bytes line named depth here f k o q _ (HashLine h takes first) =
      λ later rest plain. (
        sym (or-true line),
        tt,
        rest true false depth (opens-twice w.comments depth o) (behind-stands true (parts.Plain true behinds.Hash)
            w.comments
            (record { c = refl; hash_line = refl; include = refl })),
      )
  code-goes w fresh last place byte bytes line named depth here f k o q _ (Word bare h) =
      word-goes w place byte bytes line named depth here k o q bare
  code-goes w fresh last place byte bytes line named depth here f k o q _ (Passed cut p) =
      passed-goes w fresh place byte bytes line named depth here f k o cut p
  code-goes w fresh last place byte bytes line named depth here f k o q _
      (Heading at e name may headed) = quiet-goes line named depth (in_hash_line w.part) (moved w parts.Head) place
      (byte ∷ bytes) (code_token (code_at bytes) place (byte ∷ bytes)) k.hash_line (opens-twice w.comments depth o)
      (head-stands line named w.part w.comments k may) (token-quiet (code_at bytes) place (byte ∷ bytes))
  code-goes w fresh last place byte bytes line named depth here f k o q _ (Beginning _ _ at e CPart) =
      let none : false ≡ line = sym (begins-none w (code_at bytes) effects.BeginsC k.c e) ∙ k.hash_line in
      moved-goes w line named depth false (parts.Plain false behinds.Other) place (byte ∷ bytes)
      (plain (kinds.Code (code_at bytes)) 2) none (plain-text line none) o (code-quiet (code_at bytes))
  code-goes w fresh last place byte bytes line named depth here f k o q _ (Beginning effect _ at e _) =
      absurd (begins-none w (code_at bytes) effect k.c e)
  code-goes w fresh last place byte bytes line named depth here f k o q _ (Comment long h) =
      begin-goes long w place (byte ∷ bytes) line named depth k o
  code-goes w fresh last place byte bytes line named depth here f k o q _ (InnerEnd h ends) =
      inner-end-goes w.part w.comments place (byte ∷ bytes) line named depth k o ends

  -- ## The text of a comment

  comment-goes : (part : Part) (c : Opened) (comments : List Opened) (last place byte : ℕ) (bytes : List ℕ)
      (line named : Bool) (depth : ℕ) → InText line false part → opens (c ∷ comments) ≤ depth → 1 + twice comments ≤
      depth → (f : ScanStep) → CommentRule part c comments last place byte bytes f → Goes line named depth f
  comment-goes part c comments last place byte bytes line named depth k o n _ (Closed long h) = λ later rest. (
    k.hash_line,
    notes-so line false (depth - 1) (missing c place) later (rest line false (depth - 1)
        (opens-twice comments (depth - 1) (omega arith)) (behind-stands line part comments k)),
  )
  comment-goes part c comments last place byte bytes line named depth k o n _ (EndedLine short h) = λ later rest. (
    k.hash_line,
    notes-between line false (depth - 1) (missing c place) (line_end part comments last place).answers later
        (line-end-goes part comments last place line false (depth - 1) k (quiet-none comments)
        (omega arith) later rest),
  )
  comment-goes part c comments last place byte bytes line named depth k o n _ (InnerBegin h deep) =
      λ later rest. (k.hash_line, rest line false (depth + 1) (omega arith) (behind-stands line part _ k))
  comment-goes part c comments last place byte bytes line named depth k o n _ (Piece closes end opens) =
      let i = piece_start part comments c place in
      quiet-goes line named depth (in_hash_line part) (record
      { part = part; comments = record c { braces = (ended i (byte ∷ bytes)).braces } ∷ comments }) place (byte ∷ bytes)
      (record {
        kind = kinds.Text;
        directive = directives.No;
        size = (extent i (byte ∷ bytes)).size;
        notes = noted i
            (byte ∷ bytes);
      }) k.hash_line
      o (behind-stands line part _ k)
      (record { line = λ line. refl; file = λ line bytes. refl; other = λ line named depth before bytes. tt })

  -- ## Any text of a C part

  part-text-goes : (part : Part) (fresh : Bool) (last place byte : ℕ) (bytes : List ℕ) (line named : Bool) (depth : ℕ)
      → drop place text ≡ byte ∷ bytes → fresh_at text place ≡ fresh → Stands line named part []
      → Goes line named depth (part_text_apart part (within part) fresh last place byte bytes)
  part-text-goes parts.Head fresh last place byte bytes line named depth here f k = if-both (Goes line named depth)
      (is_in classes.Blank byte) _ _ (λ h later rest. rest line named depth (omega arith) k)
      (λ h. quiet-goes line named depth false (within (parts.Plain false behinds.Other)) place (byte ∷ bytes)
      (plain kinds.HeadSign (if begins equals bytes then 2 else 1)) k.hash_line (omega arith)
      (behind-stands line (parts.Plain false behinds.Other) [] (plain-text line k.hash_line))
      (record { line = λ line. refl; file = λ line bytes. refl; other = λ line named depth before bytes. tt }))
  part-text-goes parts.Begin fresh last place byte bytes line named depth here f k =
      code-goes (within parts.Begin) fresh last place byte bytes line named depth here f
      (record { c = refl; hash_line = k.hash_line; include = k.include }) (omega arith) tt _
      (code-rule (within parts.Begin) fresh last place byte bytes)
  part-text-goes (parts.Plain hash_line behind) fresh last place byte bytes line named depth here f k =
      code-goes (within (parts.Plain hash_line behind)) fresh last place byte bytes line named depth here f
      (record { c = refl; hash_line = k.hash_line; include = k.include }) (omega arith) tt _
      (code-rule (within (parts.Plain hash_line behind)) fresh last place byte bytes)
  part-text-goes _ fresh last place byte bytes line named depth here f k = not-both false k.c refl

  in-comment : (line named : Bool) (part : Part) (c : Opened) (comments : List Opened)
      → Stands line named part (c ∷ comments) → InText line named part
  in-comment line named parts.Head c comments k = not-both false k.c refl
  in-comment line named _ c comments k = record { c = k.c; hash_line = k.hash_line; include = k.include }

  in-text-goes : (part : Part) (comments : List Opened) (fresh : Bool) (last place byte : ℕ) (bytes : List ℕ)
      (line named : Bool) (depth : ℕ) → drop place text ≡ byte ∷ bytes → fresh_at text place ≡ fresh
      → opens comments ≤ depth → Stands line named part comments
      → Goes line named depth (in_text_apart part comments fresh last place byte bytes)
  in-text-goes part [] fresh last place byte bytes line named depth here f o k =
      part-text-goes part fresh last place byte bytes line named depth here f k
  in-text-goes part (c ∷ comments) fresh last place byte bytes line named depth here f o k =
      let w : Where = record { part = part; comments = c ∷ comments } in
      if-both (Goes line named depth) c.inner _ _ (λ h. code-goes w fresh last place byte bytes line named depth here f
      (in-comment line named part c comments k) (omega (arith, opens-with c comments depth true h o)) h _
      (code-rule w fresh last place byte bytes)) (λ h. comment-goes part c comments last place byte bytes line named
      depth (subst (λ n. InText line n part) (k.quiet h) (in-comment line named part c comments k)) o
      (opens-with c comments depth false h o) _ (comment-rule part c comments last place byte bytes))

  fresh-on : (fresh : Bool) (place byte : ℕ) (bytes : List ℕ) → drop place text ≡ byte ∷ bytes
      → fresh_at text place ≡ fresh → fresh_at text (place + 1) ≡ still_fresh fresh byte
  fresh-on fresh place byte bytes here f = sym (fresh-more true text place 1)
      ∙ ap (λ l. fresh_after (fresh_at text place) (take 1 l)) here ∙ ap (λ t. still_fresh t byte) f

  all-so : (bytes : List ℕ) (w : Where) (fresh : Bool) (last place taken : ℕ) (line named : Bool) (depth : ℕ)
      → drop place text ≡ bytes → fresh_at text place ≡ fresh → opens w.comments ≤ depth
      → Stands line named w.part w.comments → Signs line named depth (answers bytes w fresh last place taken)
  all-so [] w fresh last place taken line named depth here f o k = subst (Signs line named depth)
      (append-nil (all_cut w.part w.comments place (place - 1))) (cut-so w.part w.comments place (place - 1) line named
      depth [] k.hash_line (no-part-cut w.part w.comments place (place - 1) k.c) (λ named depth. tt))
  all-so (byte ∷ bytes) w fresh last place zero line named depth here f o k =
      let g = found_apart w fresh last place byte bytes in
      if-both (Goes line named depth) (byte == at_sign && begins_section bytes) (section w place bytes)
      (in_text_apart w.part w.comments fresh last place byte bytes) (λ h. section-goes w place bytes line named depth k)
      (λ h. in-text-goes w.part w.comments fresh last place byte bytes line named depth here f o k)
      (answers bytes g.next (still_fresh fresh byte) byte (place + 1) g.more)
      (λ line named depth o k. all-so bytes g.next (still_fresh fresh byte) byte (place + 1) g.more line named depth
      (drop-on text place byte bytes here) (fresh-on fresh place byte bytes here f) o k)
  all-so (byte ∷ bytes) w fresh last place (suc taken) line named depth here f o k = all-so bytes w
      (still_fresh fresh byte) byte (place + 1) taken line named depth (drop-on text place byte bytes here)
      (fresh-on fresh place byte bytes here f) o k

pub c-parts : (text : List ℕ) (start end : ℕ)
    → AllFitC (take end text) false false 0 (tokens_of text start end modes.CPart)
c-parts text start end =
    let cut = take end text in
    all-so cut (drop start cut) (beginning modes.CPart) (fresh_at cut start) (last_at cut start) start 0 false false 0
    refl refl (omega arith) (record { c = refl; hash_line = refl; include = refl; quiet = tt })
