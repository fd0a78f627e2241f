-- The tokens of a text that is made of tokens and white space.
use Rattle.cw_plain_laws.proofs.Terms.{◌≡◌, ℕ, suc, ◌+◌, ◌-◌, Bool, true, false, ◌&&◌, ◌||◌, ◌==◌, nat_lt, List, []}
use Rattle.cw_plain_laws.proofs.Terms.{◌∷◌, ◌++◌, length, codes, drop, inl, inr, refl, sym, ap, ◌∙◌, arith, subst}
use Rattle.cw_plain_laws.proofs.Terms.{if◌then◌else◌, nat_tests, append-nil, take_at, Class, TokKind, spelling, Answer}
use Rattle.cw_plain_laws.proofs.Terms.{Cut, Token, Where, ScanStep, token_of, plain, at_start, newline, is_in}
use Rattle.cw_plain_laws.proofs.Terms.{is_letter, is_mark, run, hash, at_sign, begins_by, begins_with, is_prefix_letter}
use Rattle.cw_plain_laws.proofs.Terms.{prefix_size, found_apart, and-none, at-byte, or-false, or-first, or-second}
use Rattle.cw_plain_laws.proofs.Terms.{constant, answers, joined, still_fresh, clash, is_wordy, is_joining, signs_touch}
use Rattle.cw_plain_laws.proofs.Terms.{words_touch, all_unplaced, is_hash}
use Rattle.cw_rules.specs.declared.signs.Sign.{Sign}
use Rattle.cw_rules.specs.Tokens.{skipped_byte, one, in_code, start_of, string, string_of}
use Rattle.cw_plain_laws.proofs.ConstantLaws.{constant-apart, no-constant}
use Rattle.cw_plain_laws.proofs.StringLaws.{quote-cut, string-of-cut}
use Rattle.cw_plain_laws.proofs.Tests.{differs, else-is, or-case, then-is, unless}
use Rattle.cw_plain_laws.proofs.Again.{IsAlone, IsApart, last_of, Spaced, spaced_text, AreSpaced, AreWhite, words}
use Rattle.cw_plain_laws.proofs.Again.{alone_token, Prefix, Bare, Wide, Utf16, Utf32, Utf8, prefix_bytes, IsClosed}
use Rattle.cw_plain_laws.proofs.Again.{in_part}
use Rattle.cw_rules.specs.declared.classes.Class.TheVariants as classes
use Rattle.cw_rules.specs.declared.codes.Code.TheVariants as codes
use Rattle.cw_rules.specs.declared.parts.Start.TheVariants as start
use Rattle.cw_rules.specs.declared.tokens.TokKind.TheVariants as kinds
use Rattle.cw_rules.specs.declared.bodies.Body.TheVariants as bodies

-- ## Runs

-- a run that is all of a text ends where a byte of another class follows
run-step : (class : Class) (b n m : ℕ) → is_in class b ≡ true → (if is_in class b then 1 + n else 0) ≡ suc n
run-step class b n m i = ap (λ t. if t then 1 + n else 0) i ∙ omega arith

pub in-class : (class : Class) (b : ℕ) (bs : List ℕ) → run class (b ∷ bs) ≡ suc (length bs) → is_in class b ≡ true
in-class class b bs e = by (is_in class b) refl
  where
    by : (t : Bool) → is_in class b ≡ t → is_in class b ≡ true
    by true i = i
    by false i = absurd (none (sym e ∙ ap (λ t. if t then 1 + run class bs else 0) i))
      where
        none : suc (length bs) ≡ 0 → ⊥
        none h = omega arith

run-rest : (class : Class) (b : ℕ) (bs : List ℕ) → run class (b ∷ bs) ≡ suc (length bs) → run class bs ≡ length bs
run-rest class b bs e =
    let all = run-step class b (run class bs) 0 (in-class class b bs e) in
    let both : suc (run class bs) ≡ suc (length bs) = sym all ∙ e in
    omega arith

pub run-all : (class : Class) (bs : List ℕ) (z : ℕ) (more : List ℕ) → run class bs ≡ length bs → is_in class z ≡ false
    → run class (bs ++ z ∷ more) ≡ length bs
run-all class [] z more e h = ap (λ t. if t then 1 + run class more else 0) h
run-all class (b ∷ bs) z more e h = run-step class b (run class (bs ++ z ∷ more)) 0 (in-class class b bs e)
    ∙ ap suc (run-all class bs z more (run-rest class b bs e) h)

pub run-last : (class : Class) (b : ℕ) (bs : List ℕ) → run class (b ∷ bs) ≡ suc (length bs)
    → is_in class (last_of b bs) ≡ true
run-last class b [] e = in-class class b [] e
run-last class b (c ∷ bs) e = run-last class c bs (run-rest class b (c ∷ bs) e)

-- ## Bytes

-- a byte behind a word or a constant is in no word and begins no string
free-behind : (last z : ℕ) → clash last z ≡ false → is_wordy last ≡ true → (is_wordy z || is_mark z) ≡ false
free-behind last z apart wordy =
    sym (λ i. wordy i && (is_wordy z || is_mark z)) ∙ or-first (words_touch last z) (signs_touch last z) apart

not-wordy : (last z : ℕ) → clash last z ≡ false → is_in classes.Word last ≡ true → is_in classes.Word z ≡ false
not-wordy last z apart word = grind (arith, or-first, free-behind)

no-mark : (last z : ℕ) → clash last z ≡ false → is_in classes.Word last ≡ true → is_mark z ≡ false
no-mark last z apart word = grind (arith, or-second, free-behind)

word-no-mark : (z : ℕ) → is_in classes.Word z ≡ true → is_mark z ≡ false
word-no-mark z word = grind (arith, or-false, unless)

-- ## A token

-- what begins none of the things that are looked for before C text
record IsCode (byte : ℕ) : Type 0 where
  at : (byte == at_sign) ≡ false
  newline : (byte == newline) ≡ false
  blank : is_in classes.Blank byte ≡ false
  hash : (byte == hash) ≡ false

code-found : (first fresh : Bool) (last place byte : ℕ) (bytes : List ℕ) → IsCode byte → found_apart (in_part first)
    fresh last place byte bytes ≡ in_code (start_of false byte bytes) (in_part first) place (byte ∷ bytes)
code-found true fresh last place byte bytes is = rw (is.at, is.newline, is.blank, is.hash, and-none) refl
code-found false fresh last place byte bytes is = rw (is.at, is.newline, is.blank, is.hash, and-none) refl

-- so it is no code, white space or `#`, where these don't pass it
record Passes (test : ℕ → Bool) : Type 0 where
  at : test 64 ≡ false
  newline : test 10 ≡ false
  space : test 32 ≡ false
  tab : test 9 ≡ false
  vertical : test 11 ≡ false
  form : test 12 ≡ false
  return : test 13 ≡ false
  hash : test 35 ≡ false

code-by : (test : ℕ → Bool) (byte : ℕ) → Passes test → test byte ≡ true → IsCode byte
code-by test byte p holds = record {
  at = unless test byte 64 holds p.at;
  newline = unless test byte 10 holds p.newline;
  blank = rw (
    unless test byte 32 holds p.space,
    unless test byte 9 holds p.tab,
    unless test byte 11 holds p.vertical,
    unless test byte 12 holds p.form,
    unless test byte 13 holds p.return,
  ) refl;
  hash = unless test byte 35 holds p.hash;
}

letter-passes : Passes is_letter
letter-passes = record {
  at = refl;
  newline = refl;
  space = refl;
  tab = refl;
  vertical = refl;
  form = refl;
  return = refl;
  hash = refl;
}

-- A token is taken, whatever stands behind it apart.
abbrev taken : TokKind → ℕ → ℕ → List ℕ → List ℕ → ScanStep
taken k place b bs rest = record {
  answers = Token (token_of false k place (suc (length bs)) (b ∷ (bs ++ rest))) ∷ [];
  more = length bs;
  next = in_part false;
}

abbrev IsTaken : TokKind → ℕ → List ℕ → Type 0
IsTaken k b bs = (first fresh : Bool) (last place : ℕ) (rest : List ℕ) → IsApart (last_of b bs) rest
    → found_apart (in_part first) fresh last place b (bs ++ rest) ≡ taken k place b bs rest

one-size : (next : Where) (k : TokKind) (place n : ℕ) (bytes : List ℕ) (size : ℕ) → size ≡ suc n → one false next place
    bytes (plain k size) ≡ record { answers = Token (token_of false k place (suc n) bytes) ∷ []; more = n; next = next }
one-size next k place n bytes size e = ap (λ s. one false next place bytes (plain k s)) e ∙ ap
    (λ m. record { answers = Token (token_of false k place (suc n) bytes) ∷ []; more = m; next = next }) (omega arith)

-- ## Identifiers

run-apart : (b : ℕ) (bs rest : List ℕ) → run classes.Word (b ∷ bs) ≡ suc (length bs) → IsApart (last_of b bs) rest
    → run classes.Word (b ∷ (bs ++ rest)) ≡ suc (length bs)
run-apart b bs [] e apart = ap (λ l. run classes.Word (b ∷ l)) (append-nil bs) ∙ e
run-apart b bs (z ∷ more) e apart = run-all classes.Word (b ∷ bs) z more e
    (not-wordy (last_of b bs) z apart (run-last classes.Word b bs e))

-- No prefix of a string begins here: no mark stands behind its letter, or behind `u8`.
none-before : (b : ℕ) (bytes : List ℕ) → begins_by is_mark bytes ≡ false
    → (begins_with (codes "u8") (b ∷ bytes) && begins_by is_mark (drop 1 bytes)) ≡ false → prefix_size (b ∷ bytes) ≡ 0
none-before b bytes one two = else-is (is_prefix_letter b && begins_by is_mark bytes) 1 (if begins_with (codes "u8")
    (b ∷ bytes) && begins_by is_mark (drop 1 bytes) then 2 else 0) ((λ i. is_prefix_letter b && one i) ∙ and-none
    (is_prefix_letter b)) ∙ else-is (begins_with (codes "u8") (b ∷ bytes) && begins_by is_mark (drop 1 bytes)) 2 0 two

rest-no-mark : (last : ℕ) (rest : List ℕ) → is_in classes.Word last ≡ true → IsApart last rest
    → begins_by is_mark rest ≡ false
rest-no-mark last [] word apart = refl
rest-no-mark last (z ∷ more) word apart = no-mark last z apart word

-- a word that stands apart is no prefix
no-prefix : (b : ℕ) (bs rest : List ℕ) → run classes.Word (b ∷ bs) ≡ suc (length bs) → IsApart (last_of b bs) rest
    → prefix_size (b ∷ (bs ++ rest)) ≡ 0
no-prefix b [] [] size apart = none-before b [] refl (and-none (b == 117 && false))
no-prefix b [] (z ∷ more) size apart =
    let word = in-class classes.Word b [] size in
    let eight : (z == 56) ≡ false = differs (is_in classes.Word) z 56 (not-wordy b z apart word) refl in
    none-before b (z ∷ more) (no-mark b z apart word) ((λ i. (b == 117 && (eight i && true)) && begins_by is_mark more)
    ∙ (λ i. and-none (b == 117) i && begins_by is_mark more))
no-prefix b (c ∷ []) rest size apart =
    let word = in-class classes.Word c [] (run-rest classes.Word b (c ∷ []) size) in
    none-before b (c ∷ rest) (word-no-mark c word) ((λ i.
    (b == 117 && (c == 56 && true)) && rest-no-mark c rest word apart i) ∙ and-none (b == 117 && (c == 56 && true)))
no-prefix b (c ∷ d ∷ bs) rest size apart =
    let less = run-rest classes.Word b (c ∷ d ∷ bs) size in
    let word = in-class classes.Word c (d ∷ bs) less in
    let next = in-class classes.Word d bs (run-rest classes.Word c (d ∷ bs) less) in
    none-before b (c ∷ d ∷ (bs ++ rest)) (word-no-mark c word)
    ((λ i. (b == 117 && (c == 56 && true)) && word-no-mark d next i) ∙ and-none (b == 117 && (c == 56 && true)))

identifier-start : (b : ℕ) (bytes : List ℕ) → is_letter b ≡ true → prefix_size (b ∷ bytes) ≡ 0
    → start_of false b bytes ≡ start.Identifier
identifier-start b bytes letter none =
    else-is (nat_lt 0 (prefix_size (b ∷ bytes))) _ _ (ap (nat_lt 0) none) ∙ then-is (is_letter b) _ _ letter

identifier-taken : (b : ℕ) (bs : List ℕ) → IsAlone kinds.Identifier b bs → IsTaken kinds.Identifier b bs
identifier-taken b bs alone true fresh last place rest apart = code-found true fresh last place b (bs ++ rest)
    (code-by is_letter b letter-passes alone.0) ∙ ap (λ s. in_code s (in_part true) place (b ∷ (bs ++ rest)))
    (identifier-start b (bs ++ rest) alone.0 (no-prefix b bs rest alone.1 apart)) ∙ one-size
    (in_part false) kinds.Identifier place (length bs) (b ∷ (bs ++ rest)) _ (run-apart b bs rest alone.1 apart)
identifier-taken b bs alone false fresh last place rest apart = code-found false fresh last place b (bs ++ rest)
    (code-by is_letter b letter-passes alone.0) ∙ ap (λ s. in_code s (in_part false) place (b ∷ (bs ++ rest)))
    (identifier-start b (bs ++ rest) alone.0 (no-prefix b bs rest alone.1 apart)) ∙ one-size
    (in_part false) kinds.Identifier place (length bs) (b ∷ (bs ++ rest)) _ (run-apart b bs rest alone.1 apart)

-- ## Signs

sign-found : (s : Sign) (b : ℕ) (bs rest : List ℕ) → IsCode b → start_of false b (bs ++ rest) ≡ start.Sign s
    → length (spelling s) ≡ suc (length bs) → (first fresh : Bool) (last place : ℕ)
    → found_apart (in_part first) fresh last place b (bs ++ rest) ≡ taken (kinds.Sign s) place b bs rest
sign-found s b bs rest is begins size true fresh last place = code-found true fresh last place b (bs ++ rest) is
    ∙ ap (λ s. in_code s (in_part true) place (b ∷ (bs ++ rest))) begins
    ∙ one-size (in_part false) (kinds.Sign s) place (length bs) (b ∷ (bs ++ rest)) _ size
sign-found s b bs rest is begins size false fresh last place = code-found false fresh last place b (bs ++ rest) is
    ∙ ap (λ s. in_code s (in_part false) place (b ∷ (bs ++ rest))) begins
    ∙ one-size (in_part false) (kinds.Sign s) place (length bs) (b ∷ (bs ++ rest)) _ size

abbrev IsTakenList : TokKind → List ℕ → Type 0
IsTakenList k [] = ⊥
IsTakenList k (b ∷ bs) = IsTaken k b bs

-- What begins at the first byte of a sign, where what follows stands apart.
abbrev Begins : Sign → List ℕ → Type 0
Begins s [] = ⊥
Begins s (b ∷ bs) = IsCode b × ((rest : List ℕ) → IsApart (last_of b bs) rest → start_of false b (bs ++ rest)
    ≡ start.Sign s)

plain-code : (b : ℕ) → (b == at_sign) ≡ false → (b == newline) ≡ false → is_in classes.Blank b ≡ false
    → (b == hash) ≡ false → IsCode b
plain-code b a n k h = record { at = a; newline = n; blank = k; hash = h }

by-rest : (b : ℕ) (bs : List ℕ) (s : Sign) → start_of false b bs ≡ start.Sign s → (bs ++ [] ≡ bs)
    → ((z : ℕ) (more : List ℕ) → clash (last_of b bs) z ≡ false → start_of false b (bs ++ z ∷ more) ≡ start.Sign s)
    → (rest : List ℕ) → IsApart (last_of b bs) rest → start_of false b (bs ++ rest) ≡ start.Sign s
by-rest b bs s alone none more [] apart = ap (start_of false b) none ∙ alone
by-rest b bs s alone none more (z ∷ rest) apart = more z rest apart

joins : (z o : ℕ) → is_joining z ≡ false → is_joining o ≡ true → (z == o) ≡ false
joins z o fails holds = differs is_joining z o fails holds

begins : (s : Sign) → is_hash s ≡ false → Begins s (spelling s)
begins s h = grind (arith, nat_tests, plain-code, by-rest, joins, or-first, or-second, else-is, differs)

begins-taken : (s : Sign) (t : List ℕ) → length (spelling s) ≡ length t → Begins s t → IsTakenList (kinds.Sign s) t
begins-taken s [] size is = absurd is
begins-taken s (b ∷ bs) size is = λ first fresh last place rest apart.
    sign-found s b bs rest is.0 (is.1 rest apart) size first fresh last place

sign-taken : (s : Sign) (b : ℕ) (bs : List ℕ) → IsAlone (kinds.Sign s) b bs → IsTaken (kinds.Sign s) b bs
sign-taken s b bs alone = subst (IsTakenList (kinds.Sign s)) (sym alone.0)
    (begins-taken s (spelling s) refl (begins s alone.1))

-- ## Constants

abbrev begins_number : ℕ → Bool
begins_number byte = is_in classes.Digit byte || byte == 46

number-passes : Passes begins_number
number-passes = record {
  at = refl;
  newline = refl;
  space = refl;
  tab = refl;
  vertical = refl;
  form = refl;
  return = refl;
  hash = refl;
}

-- a constant begins with a digit or a dot
number-begins : (b : ℕ) (bs : List ℕ) → is_letter b ≡ false → constant (b ∷ bs) ≡ suc (length bs) → begins_number b
    ≡ true
number-begins b bs letter size = by (begins_number b) refl
  where
    none : (t : Bool) → (b == 39) ≡ t → begins_number b ≡ false → constant (b ∷ bs) ≡ 0
    none true mark e = at-byte (λ y. constant (y ∷ bs) ≡ 0) b 39 mark refl
    none false mark e = no-constant b bs (record {
      word = or-false (is_letter b) (is_in classes.Digit b) letter (or-first (is_in classes.Digit b) (b == 46) e);
      dotless = or-second (is_in classes.Digit b) (b == 46) e;
      markless = mark;
    })

    by : (t : Bool) → begins_number b ≡ t → begins_number b ≡ true
    by true e = e
    by false e =
        let never : suc (length bs) ≡ 0 = sym size ∙ none (b == 39) refl e in
        absurd (omega arith)

-- each prefix begins with a letter
no-letter : (b : ℕ) (bytes : List ℕ) → is_letter b ≡ false → prefix_size (b ∷ bytes) ≡ 0
no-letter b bytes letter =
    let u = differs is_letter b 117 letter refl in
    else-is (is_prefix_letter b && begins_by is_mark bytes) 1 (if begins_with (codes "u8") (b ∷ bytes) && begins_by
    is_mark (drop 1 bytes) then 2 else 0) (λ i. or-false (b == 76 || b == 117) (b == 85) (or-false (b == 76) (b == 117)
    (differs is_letter b 76 letter refl) u) (differs is_letter b 85 letter refl) i && begins_by is_mark bytes)
    ∙ else-is (begins_with (codes "u8") (b ∷ bytes) && begins_by is_mark (drop 1 bytes)) 2 0
    (λ i. (u i && begins_with (codes "8") bytes) && begins_by is_mark (drop 1 bytes))

constant-start : (b : ℕ) (bytes : List ℕ) (n : ℕ) → is_letter b ≡ false → constant (b ∷ bytes) ≡ suc n
    → start_of false b bytes ≡ start.Constant
constant-start b bytes n letter size =
    let some : nat_lt 0 (constant (b ∷ bytes)) ≡ true = ap (nat_lt 0) size ∙ less n in
    else-is (nat_lt 0 (prefix_size (b ∷ bytes))) _ _ (ap (nat_lt 0) (no-letter b bytes letter))
    ∙ else-is (is_letter b) _ _ letter ∙ then-is (nat_lt 0 (constant (b ∷ bytes))) _ _ some
  where
    less : (n : ℕ) → nat_lt 0 (suc n) ≡ true
    less n = grind (arith, nat_tests)

constant-found : (b : ℕ) (bs rest : List ℕ) → IsAlone kinds.Constant b bs
    → constant (b ∷ (bs ++ rest)) ≡ suc (length bs) → (first fresh : Bool) (last place : ℕ)
    → found_apart (in_part first) fresh last place b (bs ++ rest) ≡ taken kinds.Constant place b bs rest
constant-found b bs rest alone size true fresh last place = code-found true fresh last place b (bs ++ rest)
    (code-by begins_number b number-passes (number-begins b bs alone.0 alone.1)) ∙ ap
    (λ s. in_code s (in_part true) place (b ∷ (bs ++ rest))) (constant-start b (bs ++ rest) (length bs) alone.0 size)
    ∙ one-size (in_part false) kinds.Constant place (length bs) (b ∷ (bs ++ rest)) _ size
constant-found b bs rest alone size false fresh last place = code-found false fresh last place b (bs ++ rest)
    (code-by begins_number b number-passes (number-begins b bs alone.0 alone.1)) ∙ ap
    (λ s. in_code s (in_part false) place (b ∷ (bs ++ rest))) (constant-start b (bs ++ rest) (length bs) alone.0 size)
    ∙ one-size (in_part false) kinds.Constant place (length bs) (b ∷ (bs ++ rest)) _ size

constant-size : (b : ℕ) (bs rest : List ℕ) → IsAlone kinds.Constant b bs → IsApart (last_of b bs) rest
    → constant (b ∷ (bs ++ rest)) ≡ suc (length bs)
constant-size b bs [] alone apart = ap (λ l. constant (b ∷ l)) (append-nil bs) ∙ alone.1
constant-size b bs (z ∷ more) alone apart =
    let free = free-behind (last_of b bs) z apart alone.2 in
    let wordy = or-first (is_wordy z) (is_mark z) free in
    constant-apart (b ∷ bs) z more alone.1 (record {
      word = or-first (is_in classes.Word z) (z == 46) wordy;
      dotless = or-second (is_in classes.Word z) (z == 46) wordy;
      markless = or-second (z == 34) (z == 39) (or-second (is_wordy z) (is_mark z) free);
    })

constant-taken : (b : ℕ) (bs : List ℕ) → IsAlone kinds.Constant b bs → IsTaken kinds.Constant b bs
constant-taken b bs alone first fresh last place rest apart =
    constant-found b bs rest alone (constant-size b bs rest alone apart) first fresh last place

-- ## Strings

pub at-mark : (P : ℕ → Type 0) (mark : ℕ) → is_mark mark ≡ true → P 34 → P 39 → P mark
at-mark P mark is double single = elim (or-case (mark == 34) (mark == 39) is) [
  | inl e ↦ at-byte P mark 34 e double
  | inr e ↦ at-byte P mark 39 e single
]

filled : (q last : ℕ) (along : Bool) (bs : List ℕ) → IsClosed q last along bs → length bs ≡ suc (length bs - 1)
filled q last along [] closed = absurd closed
filled q last along (b ∷ bs) closed = omega arith

one-plain : (k : TokKind) (next : Where) (place n : ℕ) (bytes : List ℕ) (cut : Cut) → cut ≡ plain k (suc n) → one false
    next place bytes cut ≡ record { answers = Token (token_of false k place (suc n) bytes) ∷ []; more = n; next = next }
one-plain k next place n bytes cut e = ap (λ c. one false next place bytes c) e ∙ ap
    (λ m. record { answers = Token (token_of false k place (suc n) bytes) ∷ []; more = m; next = next }) (omega arith)

-- a string that begins with this byte, and of which this is known
string-here : (b mark : ℕ) (bs : List ℕ) → IsCode b → ((rest : List ℕ) → start_of false b (bs ++ rest) ≡ start.Quoted
    mark) → ((place : ℕ) (rest : List ℕ) → string kinds.Quoted (prefix_size (b ∷ (bs ++ rest)) + 1) mark place
    (b ∷ (bs ++ rest)) ≡ plain kinds.Quoted (suc (length bs))) → IsTaken kinds.Quoted b bs
string-here b mark bs is begins cut true fresh last place rest apart = code-found true fresh last place b
    (bs ++ rest) is ∙ ap (λ s. in_code s (in_part true) place (b ∷ (bs ++ rest))) (begins rest)
    ∙ one-plain kinds.Quoted (in_part false) place (length bs) (b ∷ (bs ++ rest)) _ (cut place rest)
string-here b mark bs is begins cut false fresh last place rest apart = code-found false fresh last place b
    (bs ++ rest) is ∙ ap (λ s. in_code s (in_part false) place (b ∷ (bs ++ rest))) (begins rest)
    ∙ one-plain kinds.Quoted (in_part false) place (length bs) (b ∷ (bs ++ rest)) _ (cut place rest)

string-cut : (opening mark size : ℕ) (body : List ℕ) → IsClosed mark 0 false body → opening + length body ≡ suc size
    → (place : ℕ) (rest : List ℕ) → string_of kinds.Quoted opening (at_start (bodies.Quoted mark) (place + opening))
    (body ++ rest) ≡ plain kinds.Quoted (suc size)
string-cut opening mark size body closed same place rest = string-of-cut kinds.Quoted opening mark (place + opening)
    body (length body - 1) rest (filled mark 0 false body closed) closed ∙ ap (λ m. plain kinds.Quoted m) same

-- with a prefix of one letter
letter-taken : (b mark : ℕ) (body : List ℕ) → IsCode b → IsClosed mark 0 false body
    → ((rest : List ℕ) → start_of false b (mark ∷ rest) ≡ start.Quoted mark)
    → ((rest : List ℕ) → prefix_size (b ∷ mark ∷ rest) ≡ 1) → IsTaken kinds.Quoted b (mark ∷ body)
letter-taken b mark body is closed begins one = string-here b mark (mark ∷ body) is (λ rest. begins (body ++ rest))
    (λ place rest. ap (λ n. string kinds.Quoted (n + 1) mark place (b ∷ mark ∷ (body ++ rest))) (one (body ++ rest))
    ∙ string-cut 2 mark (suc (length body)) body closed (omega arith) place rest)

opened-taken : (p : Prefix) (mark : ℕ) (body : List ℕ) → is_mark mark ≡ true → IsClosed mark 0 false body
    → IsTakenList kinds.Quoted (prefix_bytes p ++ mark ∷ body)
opened-taken Bare mark body is closed = at-mark (λ m. IsClosed m 0 false body → IsTaken kinds.Quoted m body) mark is
    (λ closed. string-here 34 34 body (plain-code 34 refl refl refl refl) (λ rest. refl)
    (string-cut 1 34 (length body) body closed (omega arith))) (λ closed. string-here 39 39 body
    (plain-code 39 refl refl refl refl) (λ rest. refl) (string-cut 1 39 (length body) body closed (omega arith))) closed
opened-taken Wide mark body is closed = at-mark (λ m. IsClosed m 0 false body → IsTaken kinds.Quoted 76 (m ∷ body)) mark
    is (λ closed. letter-taken 76 34 body (plain-code 76 refl refl refl refl) closed (λ rest. refl) (λ rest. refl))
    (λ closed. letter-taken 76 39 body (plain-code 76 refl refl refl refl) closed (λ rest. refl) (λ rest. refl)) closed
opened-taken Utf16 mark body is closed = at-mark
    (λ m. IsClosed m 0 false body → IsTaken kinds.Quoted 117 (m ∷ body)) mark is (λ closed. letter-taken 117 34 body
    (plain-code 117 refl refl refl refl) closed (λ rest. refl) (λ rest. refl)) (λ closed. letter-taken 117 39 body
    (plain-code 117 refl refl refl refl) closed (λ rest. refl) (λ rest. refl)) closed
opened-taken Utf32 mark body is closed = at-mark (λ m. IsClosed m 0 false body → IsTaken kinds.Quoted 85 (m ∷ body))
    mark is (λ closed. letter-taken 85 34 body (plain-code 85 refl refl refl refl) closed (λ rest. refl) (λ rest. refl))
    (λ closed. letter-taken 85 39 body (plain-code 85 refl refl refl refl) closed (λ rest. refl) (λ rest. refl)) closed
opened-taken Utf8 mark body is closed = at-mark (λ m. IsClosed m 0 false body → IsTaken kinds.Quoted 117
    (56 ∷ m ∷ body)) mark is (λ closed. string-here 117 34 (56 ∷ 34 ∷ body) (plain-code 117 refl refl refl refl)
    (λ rest. refl) (string-cut 3 34 (suc (suc (length body))) body closed (omega arith)))
    (λ closed. string-here 117 39 (56 ∷ 39 ∷ body) (plain-code 117 refl refl refl refl) (λ rest. refl)
    (string-cut 3 39 (suc (suc (length body))) body closed (omega arith))) closed

string-taken : (b : ℕ) (bs : List ℕ) → IsAlone kinds.Quoted b bs → IsTaken kinds.Quoted b bs
string-taken b bs is = subst (IsTakenList kinds.Quoted) (sym is.same)
    (opened-taken is.prefix is.mark is.body is.mark_is is.closed)

-- the string of `@'`
quote-here : (bs : List ℕ) → IsClosed 39 0 false bs → IsTaken (kinds.Code codes.Quote) 64 (39 ∷ bs)
quote-here bs closed true fresh last place rest apart =
    one-plain (kinds.Code codes.Quote) (in_part false) place (suc (length bs)) (64 ∷ 39 ∷ (bs ++ rest)) _
    (quote-cut place bs (length bs - 1) rest (filled 39 0 false bs closed) closed)
quote-here bs closed false fresh last place rest apart =
    one-plain (kinds.Code codes.Quote) (in_part false) place (suc (length bs)) (64 ∷ 39 ∷ (bs ++ rest)) _
    (quote-cut place bs (length bs - 1) rest (filled 39 0 false bs closed) closed)

quote-taken : (b : ℕ) (bs : List ℕ) → IsAlone (kinds.Code codes.Quote) b bs → IsTaken (kinds.Code codes.Quote) b bs
quote-taken b [] alone = absurd alone.1
quote-taken b (mark ∷ bs) alone = subst (λ b. IsTaken (kinds.Code codes.Quote) b (mark ∷ bs)) (sym alone.0)
    (subst (λ mark. IsTaken (kinds.Code codes.Quote) 64 (mark ∷ bs)) (sym alone.1.0) (quote-here bs alone.1.1))

-- ## The whole text

abbrev pub Gives : Bool → List ℕ → List Answer → Type 0
Gives first bytes want = (fresh : Bool) (last place : ℕ)
    → all_unplaced (answers bytes (in_part first) fresh last place 0) ≡ want

-- the bytes of a token are passed
passed : (bs rest : List ℕ) (want : List Answer) → Gives false rest want → (fresh : Bool) (last place : ℕ)
    → all_unplaced (answers (bs ++ rest) (in_part false) fresh last place (length bs)) ≡ want
passed [] rest want gives fresh last place = gives fresh last place
passed (b ∷ bs) rest want gives fresh last place = passed bs rest want gives (still_fresh fresh b) b (place + 1)

token-gives : (k : TokKind) (first : Bool) (b : ℕ) (bs rest : List ℕ) (want : List Answer) → IsTaken k b bs → IsApart
    (last_of b bs) rest → Gives false rest want → Gives first (b ∷ (bs ++ rest)) (alone_token k (b ∷ bs) ∷ want)
token-gives k first b bs rest want is apart gives fresh last place = ap
    (λ f. all_unplaced (joined f (λ next more. answers (bs ++ rest) next (still_fresh fresh b) b (place + 1) more)))
    (is first fresh last place rest apart) ∙ ap (λ l. alone_token k (b ∷ l) ∷ all_unplaced (answers (bs ++ rest)
    (in_part false) (still_fresh fresh b) b (place + 1) (length bs))) (take_at bs rest (length bs) refl)
    ∙ ap (λ l. alone_token k (b ∷ bs) ∷ l) (passed bs rest want gives (still_fresh fresh b) b (place + 1))

-- white space is passed
white-found : (first fresh : Bool) (last place b : ℕ) (bs : List ℕ) → is_in classes.White b ≡ true
    → found_apart (in_part first) fresh last place b bs ≡ skipped_byte (in_part first)
white-found first fresh last place b bs white = grind (arith, nat_tests, unless, in_part)

pub white-gives : (first : Bool) (ws rest : List ℕ) (want : List Answer) → AreWhite ws → Gives first rest want
    → Gives first (ws ++ rest) want
white-gives first [] rest want white gives fresh last place = gives fresh last place
white-gives first (b ∷ ws) rest want white gives fresh last place = ap (λ f. all_unplaced (joined f
    (λ next more. answers (ws ++ rest) next (still_fresh fresh b) b (place + 1) more))) (white-found first fresh last
    place b (ws ++ rest) white.0) ∙ white-gives first ws rest want white.1 gives (still_fresh fresh b) b (place + 1)

alone-taken : (k : TokKind) (b : ℕ) (bs : List ℕ) → IsAlone k b bs → IsTaken k b bs
alone-taken kinds.Identifier b bs alone = identifier-taken b bs alone
alone-taken kinds.Constant b bs alone = constant-taken b bs alone
alone-taken kinds.Quoted b bs alone = string-taken b bs alone
alone-taken (kinds.Sign s) b bs alone = sign-taken s b bs alone
alone-taken (kinds.Code codes.Quote) b bs alone = quote-taken b bs alone
alone-taken _ b bs alone = absurd alone

pub again : (first : Bool) (ts : List Spaced) → AreSpaced ts → Gives first (spaced_text ts) (words ts)
again true [] are fresh last place = refl
again false [] are fresh last place = refl
again first (t ∷ ts) are fresh last place = token-gives t.kind first t.first t.rest (t.space ++ spaced_text ts)
    (words ts) (alone-taken t.kind t.first t.rest are.0) are.2
    (white-gives false t.space (spaced_text ts) (words ts) are.1 (again false ts are.3)) fresh last place
