-- A constant is the same whatever stands behind it that is no letter, digit, dot or mark.
use Rattle.cw_plain_laws.proofs.Terms.{◌≡◌, ℕ, ◌+◌, ◌≤◌, Bool, true, false, ◌&&◌, ◌==◌, nat_lt, List, [], ◌∷◌, ◌++◌}
use Rattle.cw_plain_laws.proofs.Terms.{length, drop, refl, sym, ap, ◌∙◌, arith, length-drop, if◌then◌else◌, nat_tests}
use Rattle.cw_plain_laws.proofs.Terms.{drop-drop, Class, is_in, is_letter, is_letter_of, run, apostrophe, dot, digit_0}
use Rattle.cw_plain_laws.proofs.Terms.{begins, begins_by, binary, constant, decimal, digits, exponent, exponent_sign}
use Rattle.cw_plain_laws.proofs.Terms.{fraction, digits_go_on, hexadecimal, is_prefixed, mantissa, more_digits, number}
use Rattle.cw_plain_laws.proofs.Terms.{scaled, drop-same, digits-le, mantissa-le, number-le, if-same, and-none}
use Rattle.cw_plain_laws.proofs.Terms.{or-false, or-second}
use Rattle.cw_plain_laws.proofs.Tests.{differs}
use Rattle.cw_rules.specs.declared.classes.Class.TheVariants as classes
use Rattle.cw_base.specs.Bytes.{byte_of}
use Rattle.std.specs.Prelude.{◌||◌}

hex-none : (z : ℕ) → is_in classes.Word z ≡ false → is_in classes.HexDigit z ≡ false
hex-none z e = grind (arith, nat_tests)

binary-none : (z : ℕ) → is_in classes.Word z ≡ false → is_in classes.BinaryDigit z ≡ false
binary-none z e = grind (arith, nat_tests)

suffix-none : (z : ℕ) → is_in classes.Word z ≡ false → is_in classes.Suffix z ≡ false
suffix-none z e = grind (arith, nat_tests)

b-none : (z : ℕ) → is_in classes.Word z ≡ false → is_letter_of 98 z ≡ false
b-none z e = grind (arith, nat_tests)

e-none : (z : ℕ) → is_in classes.Word z ≡ false → is_letter_of 101 z ≡ false
e-none z e = grind (arith, nat_tests)

p-none : (z : ℕ) → is_in classes.Word z ≡ false → is_letter_of 112 z ≡ false
p-none z e = grind (arith, nat_tests)

x-none : (z : ℕ) → is_in classes.Word z ≡ false → is_letter_of 120 z ≡ false
x-none z e = grind (arith, nat_tests)

e-suffix : (b : ℕ) → is_letter_of 101 b ≡ true
    → (is_letter_of (byte_of "u") b || is_letter_of (byte_of "l") b || is_letter_of (byte_of "f") b) ≡ false
e-suffix b e = grind (arith, nat_tests)

p-suffix : (b : ℕ) → is_letter_of 112 b ≡ true
    → (is_letter_of (byte_of "u") b || is_letter_of (byte_of "l") b || is_letter_of (byte_of "f") b) ≡ false
p-suffix b e = grind (arith, nat_tests)

-- Only an exponent's letter that ends the bytes would look at a sign behind them.
abbrev pub EndsWell : ℕ → List ℕ → Type 0
EndsWell letter [] = Unit {0}
EndsWell letter (b ∷ []) = is_letter_of letter b ≡ false
EndsWell letter (b ∷ c ∷ bs) = Unit {0}

-- what stands behind the mantissa of a number with this letter
abbrev pub behind_mantissa : Class → List ℕ → List ℕ
behind_mantissa class bytes = drop (mantissa class bytes) bytes

-- A number ends well: a hexadecimal one behind its `0x`, and a decimal one.
pub record NumberEndsWell (bs : List ℕ) : Type 0 where
  pub hexadecimal_end : is_prefixed 120 classes.HexDigit bs ≡ true
      → EndsWell 112 (behind_mantissa classes.HexDigit (drop 2 bs))
  pub decimal_end : nat_lt 0 (hexadecimal bs) ≡ false → nat_lt 0 (binary bs) ≡ false
      → EndsWell 101 (behind_mantissa classes.Digit bs)

-- a byte with which no constant goes on
pub record IsBeyond (z : ℕ) : Type 0 where
  pub word : is_in classes.Word z ≡ false
  pub dotless : (z == dot) ≡ false
  pub markless : (z == apostrophe) ≡ false

module _ (z : ℕ) (more : List ℕ) (beyond : IsBeyond z) where
  digit-none : is_in classes.Digit z ≡ false
  digit-none = or-second (is_letter z) (is_in classes.Digit z) beyond.word

  run-same : (class : Class) (bs : List ℕ) → is_in class z ≡ false → run class (bs ++ z ∷ more) ≡ run class bs
  run-same class [] h = ap (λ t. if t then 1 + run class more else 0) h
  run-same class (b ∷ bs) h = ap (λ n. if is_in class b then 1 + n else 0) (run-same class bs h)

  begins-same : (class : Class) (bs : List ℕ) → is_in class z ≡ false
      → begins_by (is_in class) (bs ++ z ∷ more) ≡ begins_by (is_in class) bs
  begins-same class bs h = grind arith

  dot-same : (bs : List ℕ) → begins dot (bs ++ z ∷ more) ≡ begins dot bs
  dot-same bs = grind arith

  stops : (class : Class) → is_in class z ≡ false → digits_go_on class z more ≡ false
  stops class h = grind (arith, or-false)

  more_digits-same : (class : Class) (bs : List ℕ) → is_in class z ≡ false
      → more_digits class (bs ++ z ∷ more) ≡ more_digits class bs
  more_digits-same class [] h = ap (λ t. if t then 1 + more_digits class more else 0) (stops class h)
  more_digits-same class (b ∷ bs) h = grind (arith, more_digits-same class bs h, begins-same)

  digits-same : (class : Class) (bs : List ℕ) → is_in class z ≡ false → digits class (bs ++ z ∷ more) ≡ digits class bs
  digits-same class bs h = grind (arith, more_digits-same)

  fraction-same : (class : Class) (behind : Bool) (bs : List ℕ) → is_in class z ≡ false
      → fraction class behind (bs ++ z ∷ more) ≡ fraction class behind bs
  fraction-same class behind bs h = grind (arith, dot-same, digits-same)

  sign-le : (bs : List ℕ) → exponent_sign bs ≤ length bs
  sign-le bs = grind arith

  exponent-same : (letter : ℕ) (bs : List ℕ) → is_letter_of letter z ≡ false → EndsWell letter bs
      → exponent letter (bs ++ z ∷ more) ≡ exponent letter bs
  exponent-same letter bs none well = grind (arith, sign-le, drop-same, digits-same, digit-none)

  mantissa-same : (class : Class) (bs : List ℕ) → is_in class z ≡ false
      → mantissa class (bs ++ z ∷ more) ≡ mantissa class bs
  mantissa-same class bs h = grind (arith, digits-same, drop-same, digits-le, fraction-same)

  scaled-same : (class : Class) (letter : ℕ) (bs : List ℕ) → is_in class z ≡ false → is_letter_of letter z ≡ false
      → EndsWell letter (behind_mantissa class bs) → scaled class letter (bs ++ z ∷ more) ≡ scaled class letter bs
  scaled-same class letter bs h none well =
      let n = mantissa class bs in
      let m = mantissa-same class bs h in
      let rest = ap (exponent letter) (drop-same n bs (z ∷ more) (mantissa-le class bs))
      ∙ exponent-same letter (drop n bs) none well in
      (λ i. if nat_lt 0 (m i) then m i + exponent letter (drop (m i) (bs ++ z ∷ more)) else 0)
      ∙ ap (λ k. if nat_lt 0 n then n + k else 0) rest

  -- what stands behind `0` and a letter
  prefixed-same : (letter : ℕ) (class : Class) (f : List ℕ → ℕ) (bs : List ℕ) → is_letter_of letter z ≡ false
      → is_in class z ≡ false → (is_prefixed letter class bs ≡ true → f (drop 2 bs ++ z ∷ more) ≡ f (drop 2 bs))
      → (if is_prefixed letter class (bs ++ z ∷ more) then 2 + f (drop 2 (bs ++ z ∷ more)) else 0)
      ≡ (if is_prefixed letter class bs then 2 + f (drop 2 bs) else 0)
  prefixed-same letter class f [] none h same = grind (arith, differs, digit-none)
  prefixed-same letter class f (b ∷ []) none h same = grind (arith, and-none)
  prefixed-same letter class f (b ∷ c ∷ bs) none h same =
      let first = begins-same class bs h in
      if-same (is_prefixed letter class (b ∷ c ∷ (bs ++ z ∷ more))) (is_prefixed letter class (b ∷ c ∷ bs)) _ _ _ _
      (λ i. b == digit_0 && (is_letter_of letter c && first i)) (λ e. ap (λ n. 2 + n) (same e)) (λ e. refl)

  number-same : (bs : List ℕ) → NumberEndsWell bs → number (bs ++ z ∷ more) ≡ number bs
  number-same bs well =
      let hex : hexadecimal (bs ++ z ∷ more) ≡ hexadecimal bs = prefixed-same 120 classes.HexDigit
      (scaled classes.HexDigit 112) bs (x-none z beyond.word) (hex-none z beyond.word) (λ e. scaled-same
      classes.HexDigit 112 (drop 2 bs) (hex-none z beyond.word) (p-none z beyond.word) (well.hexadecimal_end e)) in
      let two : binary (bs ++ z ∷ more) ≡ binary bs = prefixed-same 98 classes.BinaryDigit
      (digits classes.BinaryDigit) bs (b-none z beyond.word) (binary-none z beyond.word)
      (λ e. digits-same classes.BinaryDigit (drop 2 bs) (binary-none z beyond.word)) in
      if-same (nat_lt 0 (hexadecimal (bs ++ z ∷ more))) (nat_lt 0 (hexadecimal bs)) _ _ _ _ (ap (nat_lt 0) hex)
      (λ e. hex) (λ e. if-same (nat_lt 0 (binary (bs ++ z ∷ more))) (nat_lt 0 (binary bs)) _ _ _ _ (ap (nat_lt 0) two)
      (λ f. two) (λ f. scaled-same classes.Digit 101 bs digit-none (e-none z beyond.word) (well.decimal_end e f)))

  pub constant-same : (bs : List ℕ) → NumberEndsWell bs → constant (bs ++ z ∷ more) ≡ constant bs
  constant-same bs well =
      let n = number-same bs well in
      let rest = ap (run classes.Suffix) (drop-same (number bs) bs (z ∷ more) (number-le bs))
      ∙ run-same classes.Suffix (drop (number bs) bs) (suffix-none z beyond.word) in
      (λ i. if nat_lt 0 (n i) then n i + run classes.Suffix (drop (n i) (bs ++ z ∷ more)) else 0)
      ∙ ap (λ k. if nat_lt 0 (number bs) then number bs + k else 0) rest

  -- it begins no constant itself
  pub no-constant : constant (z ∷ more) ≡ 0
  no-constant = constant-same [] (record { hexadecimal_end = λ e. absurd cc; decimal_end = λ e f. tt })

-- ## A whole constant ends well

pub none-there : (m : ℕ) → nat_lt 0 m ≡ false → m ≡ 0
none-there m e = grind (arith, nat_tests)

lone-exponent : (letter b : ℕ) → is_letter_of letter b ≡ true → exponent letter (b ∷ []) ≡ 0
lone-exponent letter b e = ap (λ t. if t && nat_lt 0 (digits classes.Digit (drop (1 + 0) (b ∷ []))) then (1 + 0)
    + digits classes.Digit (drop (1 + 0) (b ∷ [])) else 0) e

lone-suffix : (b : ℕ) → (is_letter_of (byte_of "u") b || is_letter_of (byte_of "l") b || is_letter_of (byte_of "f") b)
    ≡ false → run classes.Suffix (b ∷ []) ≡ 0
lone-suffix b e = ap (λ t. if t then 1 + 0 else 0) e

-- no exponent is there
none-more : (m : ℕ) → (if nat_lt 0 m then m + 0 else 0) ≡ m
none-more m = grind (arith, none-there)

lone-scaled : (class : Class) (letter : ℕ) (bs : List ℕ) (b : ℕ) → behind_mantissa class bs ≡ b ∷ []
    → is_letter_of letter b ≡ true → scaled class letter bs ≡ mantissa class bs
lone-scaled class letter bs b behind e = ap (λ n. if nat_lt 0 (mantissa class bs) then mantissa class bs + n else 0)
    (ap (exponent letter) behind ∙ lone-exponent letter b e) ∙ none-more (mantissa class bs)

-- a byte behind the number that is no suffix letter
lone-byte : (bs : List ℕ) (n b : ℕ) → number bs ≡ n → drop n bs ≡ b ∷ []
    → (is_letter_of (byte_of "u") b || is_letter_of (byte_of "l") b || is_letter_of (byte_of "f") b) ≡ false
    → constant bs ≡ length bs → ⊥
lone-byte bs n b size behind none whole = grind (arith, lone-suffix b none, none-more n, length-drop n bs)

ends-unless : (letter : ℕ) (r : List ℕ) → ((b : ℕ) → r ≡ b ∷ [] → is_letter_of letter b ≡ true → ⊥) → EndsWell letter r
ends-unless letter r not-lone = grind arith

pub whole-ends : (bs : List ℕ) → constant bs ≡ length bs → NumberEndsWell bs
whole-ends bs whole = record {
  hexadecimal_end = λ prefixed. ends-unless 112 (behind_mantissa classes.HexDigit (drop 2 bs)) (λ b behind letter.
      let m = mantissa classes.HexDigit (drop 2 bs) in
      let hex : hexadecimal bs ≡ 2 + m = ap (λ t. if t then 2 + scaled classes.HexDigit 112 (drop 2 bs) else 0) prefixed
      ∙ ap (λ n. 2 + n) (lone-scaled classes.HexDigit 112 (drop 2 bs) b behind letter) in
      let size : number bs ≡ 2 + m = (λ i. if nat_lt 0 (hex i) then hex i else
      (if nat_lt 0 (binary bs) then binary bs else decimal bs)) ∙ there m in
      lone-byte bs (2 + m) b size (after m ∙ behind) (p-suffix b letter) whole);
  decimal_end = λ hex two. ends-unless 101 (behind_mantissa classes.Digit bs) (λ b behind letter.
      let m = mantissa classes.Digit bs in
      let size : number bs ≡ m = ap
      (λ t. if t then hexadecimal bs else if nat_lt 0 (binary bs) then binary bs else decimal bs) hex
      ∙ ap (λ t. if t then binary bs else decimal bs) two ∙ lone-scaled classes.Digit 101 bs b behind letter in
      lone-byte bs m b size behind (e-suffix b letter) whole);
}
  where
    there : (m : ℕ) → (if nat_lt 0 (2 + m) then 2 + m else
        (if nat_lt 0 (binary bs) then binary bs else decimal bs)) ≡ 2 + m
    there m = ap (λ t. if t then 2 + m else if nat_lt 0 (binary bs) then binary bs else decimal bs) (some m)
      where
        some : (m : ℕ) → nat_lt 0 (2 + m) ≡ true
        some m = grind (arith, nat_tests)

    after : (m : ℕ) → drop (2 + m) bs ≡ drop m (drop 2 bs)
    after m = ap (λ n. drop n bs) (omega arith) ∙ sym (drop-drop m 2 bs)

-- what stands apart from a whole constant leaves it as it is
pub constant-apart : (bs : List ℕ) (z : ℕ) (more : List ℕ) → constant bs ≡ length bs → IsBeyond z
    → constant (bs ++ z ∷ more) ≡ length bs
constant-apart bs z more whole beyond = constant-same z more beyond bs (whole-ends bs whole) ∙ whole
