-- Short tokens of C text, by its rules.
use Rattle.std.proofs.Common.{not, subst, ◌⊎◌, inl, inr, ◌≡◌, ℕ, ◌+◌, ◌<◌, ◌≤◌, arith, length-drop, Bool, true, false}
use Rattle.std.proofs.Common.{◌&&◌, ◌||◌, ◌==◌, nat_lt, List, ◌∷◌, Some, None, length, slice_index, drop, refl, sym, ap}
use Rattle.std.proofs.Common.{◌∙◌, if◌then◌else◌}
use Rattle.cw_rules.specs.declared.classes.Class.TheVariants as classes
use Rattle.cw_rules.specs.declared.{parts.Part.Part, parts.Opened.Opened, parts.Start.Start, signs.Sign.Sign}
use Rattle.cw_rules.specs.declared.parts.Behind.TheVariants as behinds
use Rattle.cw_rules.specs.declared.parts.Part.TheVariants as parts
use Rattle.cw_rules.specs.declared.parts.Start.TheVariants as start
use Rattle.cw_rules.specs.declared.tokens.TokKind.TheVariants as kinds
use Rattle.cw_rules.specs.{Answers.Where, Answers.plain, Constants.constant, Prefixes.prefix_size, Signs.all_signs}
use Rattle.cw_rules.specs.{Signs.longest, Signs.spelling, Tokens.passed, Tokens.one, Tokens.moved}
use Rattle.cw_rules.specs.{model.Cuttings.bytes_at}
use Rattle.cw_rules.specs.Bytes.{is_in, is_letter, is_mark, begins, begins_by, run}
use Rattle.cw_rules.specs.Tokens.{in_code, start_of, is_include, behind_word, ends_at_bar, in_hash_line}
use Rattle.cw_lex.specs.{model.Coming.found_at, model.Calm.is_calm}
use Rattle.cw_lex.specs.model.Short.{is_alone, is_lone, IsShort, BeginsString, EndsInner}
use Rattle.cw_lex.proofs.{White.other-byte, Calm.calm-code, Calm.calm-part, Steps.bytes-here}
use Rattle.cw_rules.proofs.{Sizes.run-le, StringPrefixes.no-prefix}
use Rattle.std.proofs.{lemmas.Bool.lt-ltb, lemmas.Bool.eqb-true, lemmas.Bool.Decides.nat_tests}
use Rattle.std.specs.Option.{option_map_or}
use Rattle.cw_base.proofs.TestLaws.{and-false}

-- a byte that begins no line's end, white space, code or `#` line
pub record IsStart (b : ℕ) : Type 0 where
  pub newline : (b == 10) ≡ false
  pub blank : is_in classes.Blank b ≡ false
  pub backslash : (b == 92) ≡ false
  pub at_sign : (b == 64) ≡ false
  pub hash : (b == 35) ≡ false

-- what begins there is found by the rule of its start
start-found : (text : List ℕ) (part : Part) (comments : List Opened) (place : ℕ) (kind : Start) → is_calm part comments
    ≡ true → IsStart (slice_index text place) → start_of (ends_at_bar part comments) (slice_index text place)
    (drop (place + 1) text) ≡ kind → found_at text (record { part = part; comments = comments }) place
    ≡ in_code kind (record { part = part; comments = comments }) place (bytes_at text place)
start-found text part comments place kind calm s e =
    grind (arith, calm-code part comments calm, calm-part part comments calm)

no-blank : (b : ℕ) → (b == 32) ≡ false → (b == 9) ≡ false → (b == 11) ≡ false → (b == 12) ≡ false → (b == 13) ≡ false
    → is_in classes.Blank b ≡ false
no-blank b e f g h k = rw (e, f, g, h, k) refl

letter-starts : (b : ℕ) → is_letter b ≡ true → IsStart b
letter-starts b h = grind (arith, nat_tests, other-byte, no-blank)

digit-starts : (b : ℕ) → is_in classes.Digit b ≡ true → IsStart b
digit-starts b h = grind (arith, nat_tests, other-byte, no-blank)

abbrev begins_sign : List ℕ → ℕ → Bool
begins_sign bs b = elim (longest all_signs (b ∷ bs)) [ None ↦ false | Some sign ↦ true ]

sign-starts : (b : ℕ) (bs : List ℕ) (sign : Sign) → is_lone b ≡ true → longest all_signs (b ∷ bs) ≡ Some sign
    → IsStart b
sign-starts b bs sign lone e = grind (arith, nat_tests, other-byte, no-blank)

no-constant : (b : ℕ) (bs : List ℕ) → is_in classes.Digit b ≡ false → (b == 48) ≡ false → (b == 46) ≡ false
    → constant (b ∷ bs) ≡ 0
no-constant b bs d z p = grind (arith, nat_tests)

sign-is : (bars : Bool) (b : ℕ) (bs : List ℕ) (sign : Sign) → is_letter b ≡ false → is_in classes.Digit b ≡ false
    → is_lone b ≡ true → longest all_signs (b ∷ bs) ≡ Some sign → start_of bars b bs ≡ start.Sign sign
sign-is bars b bs sign letter digit lone e = grind (
  arith,
  nat_tests,
  other-byte is_lone b 46 lone refl,
  other-byte is_lone b 47 lone refl,
  other-byte is_lone b 124 lone refl,
  no-prefix b bs letter,
)

letter-is : (bars : Bool) (b : ℕ) (bs : List ℕ) → is_letter b ≡ true → prefix_size (b ∷ bs) ≡ 0
    → start_of bars b bs ≡ start.Identifier
letter-is bars b bs h none = rw (none, h) refl

number-is : (bars : Bool) (b : ℕ) (bs : List ℕ) → is_letter b ≡ false → nat_lt 0 (constant (b ∷ bs)) ≡ true
    → start_of bars b bs ≡ start.Constant
number-is bars b bs h n = rw (no-prefix b bs h, h, n) refl

quote-starts : (b : ℕ) → is_mark b ≡ true → IsStart b
quote-starts b h = grind (arith, nat_tests, other-byte, no-blank)

string-is : (bars : Bool) (b : ℕ) (bs : List ℕ) → is_letter b ≡ false → is_in classes.Digit b ≡ false → is_mark b ≡ true
    → start_of bars b bs ≡ start.Quoted b
string-is bars b bs letter digit quoted =
    let none = no-constant b bs digit (other-byte is_mark b 48 quoted refl) (other-byte is_mark b 46 quoted refl) in
    rw (no-prefix b bs letter, letter, none, quoted) refl

-- behind no `include` of a `#` line the part is the next
word-passed : (part : Part) (bytes : List ℕ) → (in_hash_line part && is_include bytes) ≡ false → behind_word part bytes
    ≡ passed part
word-passed part bytes h = ap (λ t. if t then parts.Plain true behinds.Include else passed part) h

-- ## Tokens

pub word-short : (text : List ℕ) (part : Part) (comments : List Opened) (place size : ℕ) → is_calm part comments ≡ true
    → place < length text → is_letter (slice_index text place) ≡ true → prefix_size (drop place text) ≡ 0
    → size ≡ run classes.Word (drop place text)
    → IsShort text (record { part = part; comments = comments }) place (record { kind = kinds.Identifier; size = size })
word-short text part comments place size calm within letter none e = grind (
  arith,
  nat_tests,
  bytes-here,
  run-le,
  length-drop,
  start-found,
  letter-starts,
  letter-is,
  word-passed,
  calm-part,
)

pub number-short : (text : List ℕ) (part : Part) (comments : List Opened) (place size : ℕ) → is_calm part comments
    ≡ true → place < length text → is_letter (slice_index text place) ≡ false → is_in classes.Digit
    (slice_index text place) ≡ true → 0 < size → place + size ≤ length text → size ≡ constant (drop place text)
    → IsShort text (record { part = part; comments = comments }) place (record { kind = kinds.Constant; size = size })
number-short text part comments place size calm within letter digit some most e =
    let w : Where = record { part = part; comments = comments } in
    let b = slice_index text place in
    let bs = drop (place + 1) text in
    let same : size ≡ constant (b ∷ bs) = e ∙ ap constant (bytes-here text place within) in
    record {
      some = some;
      within = most;
      found = start-found text part comments place start.Constant calm (digit-starts b digit)
          (number-is (ends_at_bar part comments) b bs letter (lt-ltb 0 (constant (b ∷ bs)) (omega arith)))
          ∙ (λ i. one (in_hash_line part) (moved w (passed part)) place (b ∷ bs) (plain kinds.Constant (sym same i)));
    }

lone-short : (text : List ℕ) (part : Part) (comments : List Opened) (place size : ℕ) (sign : Sign)
    → is_calm part comments ≡ true → place < length text → is_letter (slice_index text place) ≡ false
    → is_in classes.Digit (slice_index text place) ≡ false → is_lone (slice_index text place) ≡ true → longest all_signs
    (bytes_at text place) ≡ Some sign → 0 < size → size ≡ length (spelling sign) → place + size ≤ length text
    → IsShort text (record { part = part; comments = comments }) place (record { kind = kinds.Sign sign; size = size })
lone-short text part comments place size sign calm within letter digit lone e some same most =
    let w : Where = record { part = part; comments = comments } in
    let b = slice_index text place in
    let bs = drop (place + 1) text in
    record {
      some = some;
      within = most;
      found = start-found text part comments place (start.Sign sign) calm (sign-starts b bs sign lone e)
          (sign-is (ends_at_bar part comments) b bs sign letter digit lone e) ∙ (λ i. one (in_hash_line part)
          (moved w (passed part)) place (b ∷ bs) (plain (kinds.Sign sign) (sym same i)));
    }

-- a dot before no digit
no-decimal : (bs : List ℕ) → begins_by (is_in classes.Digit) bs ≡ false → constant (46 ∷ bs) ≡ 0
no-decimal bs h = grind (arith, nat_tests, and-false)

dot-starts : IsStart 46
dot-starts = record { newline = refl; blank = refl; backslash = refl; at_sign = refl; hash = refl }

dot-is : (bars : Bool) (bs : List ℕ) (sign : Sign) → begins_by (is_in classes.Digit) bs ≡ false
    → longest all_signs (46 ∷ bs) ≡ Some sign → start_of bars 46 bs ≡ start.Sign sign
dot-is bars bs sign h e = grind (arith, nat_tests, no-decimal)

dot-short : (text : List ℕ) (part : Part) (comments : List Opened) (place size : ℕ) (sign : Sign)
    → is_calm part comments ≡ true → slice_index text place ≡ 46
    → begins_by (is_in classes.Digit) (drop (place + 1) text) ≡ false → longest all_signs (bytes_at text place)
    ≡ Some sign → 0 < size → size ≡ length (spelling sign) → place + size ≤ length text
    → IsShort text (record { part = part; comments = comments }) place (record { kind = kinds.Sign sign; size = size })
dot-short text part comments place size sign calm here digit e some same most =
    let w : Where = record { part = part; comments = comments } in
    let bs = drop (place + 1) text in
    let starts : IsStart (slice_index text place) = subst IsStart (sym here) dot-starts in
    let kind : start_of (ends_at_bar part comments) (slice_index text place) bs ≡ start.Sign sign =
    ap (λ b. start_of (ends_at_bar part comments) b bs) here
    ∙ dot-is (ends_at_bar part comments) bs sign digit (ap (λ b. longest all_signs (b ∷ bs)) (sym here) ∙ e) in
    record {
      some = some;
      within = most;
      found = start-found text part comments place (start.Sign sign) calm starts kind ∙ (λ i. one (in_hash_line part)
          (moved w (passed part)) place (bytes_at text place) (plain (kinds.Sign sign) (sym same i)));
    }

alone-by : (lone dotted digit : Bool) → (lone || (dotted && not digit)) ≡ true
    → (lone ≡ true) ⊎ ((dotted ≡ true) × (digit ≡ false))
alone-by lone dotted digit h = grind arith

pub sign-short : (text : List ℕ) (part : Part) (comments : List Opened) (place size : ℕ) (sign : Sign)
    → is_calm part comments ≡ true → place < length text → is_letter (slice_index text place) ≡ false
    → is_in classes.Digit (slice_index text place) ≡ false → is_alone (slice_index text place) (drop (place + 1) text)
    ≡ true → longest all_signs (bytes_at text place) ≡ Some sign → 0 < size → size ≡ length (spelling sign)
    → place + size ≤ length text
    → IsShort text (record { part = part; comments = comments }) place (record { kind = kinds.Sign sign; size = size })
sign-short text part comments place size sign calm within letter digit alone e some same most =
    let b = slice_index text place in
    elim (alone-by (is_lone b) (b == 46) (begins_by (is_in classes.Digit) (drop (place + 1) text)) alone) [
      | inl lone ↦ lone-short text part comments place size sign calm within letter digit lone e some same most
      | inr dotted ↦ dot-short text part comments place size sign calm (eqb-true b 46 dotted.0) dotted.1 e some same
          most
    ]

pub string-begins : (text : List ℕ) (part : Part) (comments : List Opened) (place : ℕ) → is_calm part comments ≡ true
    → place < length text → is_letter (slice_index text place) ≡ false
    → is_in classes.Digit (slice_index text place) ≡ false → is_mark (slice_index text place) ≡ true
    → BeginsString text (record { part = part; comments = comments }) place (slice_index text place)
string-begins text part comments place calm within letter digit quoted =
    grind (arith, start-found, quote-starts, string-is)

-- ## Bars

bar-starts : IsStart 124
bar-starts = record { newline = refl; blank = refl; backslash = refl; at_sign = refl; hash = refl }

bar-kind : (bars : Bool) (bs : List ℕ) → start_of bars 124 bs
    ≡ (if bars && not (begins 124 bs) then start.EndOfInner
    else option_map_or start.Sign (longest all_signs (124 ∷ bs)) start.OtherByte)
bar-kind bars bs = grind (arith, nat_tests, no-constant)

bar-is : (text : List ℕ) (place : ℕ) (bars ends : Bool) → slice_index text place ≡ 124
    → (bars && not (begins 124 (drop (place + 1) text))) ≡ ends → start_of bars (slice_index text place) (drop
    (place + 1) text) ≡ (if ends then start.EndOfInner
    else option_map_or start.Sign (longest all_signs (bytes_at text place)) start.OtherByte)
bar-is text place bars ends here e = grind (arith, nat_tests, bar-kind)

pub inner-ends : (text : List ℕ) (part : Part) (comments : List Opened) (place : ℕ) → is_calm part comments ≡ true
    → place < length text → slice_index text place ≡ 124 → (ends_at_bar part comments && not
    (begins 124 (drop (place + 1) text))) ≡ true → EndsInner text (record { part = part; comments = comments }) place
inner-ends text part comments place calm within here ends = (
  within,
  start-found text part comments place start.EndOfInner calm (subst IsStart (sym here) bar-starts)
      (bar-is text place (ends_at_bar part comments) true here ends),
)

pub bar-short : (text : List ℕ) (part : Part) (comments : List Opened) (place size : ℕ) (sign : Sign)
    → is_calm part comments ≡ true → slice_index text place ≡ 124
    → (ends_at_bar part comments && not (begins 124 (drop (place + 1) text))) ≡ false → longest all_signs
    (bytes_at text place) ≡ Some sign → 0 < size → size ≡ length (spelling sign) → place + size ≤ length text
    → IsShort text (record { part = part; comments = comments }) place (record { kind = kinds.Sign sign; size = size })
bar-short text part comments place size sign calm here ends e some same most =
    grind (arith, bar-is text place (ends_at_bar part comments) false here ends)
