-- What the rules for tokens see of the bytes ahead, where an `@` or a bar stands that no token takes.
use Rattle.std.proofs.Common.{◌≡◌, ℕ, zero, suc, ◌+◌, ◌≤◌, Bool, true, false, ◌&&◌, ◌||◌, not, ◌==◌, nat_lt, List, []}
use Rattle.std.proofs.Common.{◌∷◌, ◌++◌, codes, length, slice_index, take, drop, refl, sym, ap, ◌∙◌, arith}
use Rattle.std.specs.Prelude.{if◌then◌else◌}
use Rattle.std.specs.List.{list_any}
use Rattle.cw_rules.specs.declared.{classes.Class.Class, parts.Part.Part, signs.Sign.Sign}
use Rattle.cw_rules.specs.declared.classes.Class.TheVariants as classes
use Rattle.cw_rules.specs.declared.parts.Start.TheVariants as start
use Rattle.cw_rules.specs.Bytes.{apostrophe, is_mark, star, plus, minus, slash, at_sign, left_paren, right_paren, comma}
use Rattle.cw_rules.specs.Bytes.{run, is_in, is_letter, is_letter_of, begins, begins_by, begins_with}
use Rattle.cw_base.specs.Text.{bar}
use Rattle.cw_rules.specs.{Signs.all_signs, Signs.spelling, Signs.longer, Signs.longest, Prefixes.prefix_size}
use Rattle.cw_rules.specs.{Codes.code_at, Codes.begins_section, Tokens.parameter_follows, Tokens.depth_size}
use Rattle.cw_rules.specs.{Tokens.is_include}
use Rattle.cw_rules.specs.Tokens.{behind_space, is_define, begins_parameters, has_parameters, defines_macro}
use Rattle.cw_rules.specs.Tokens.{directive_at, start_of, is_signed, behind_white, name_follows, is_parameter}
use Rattle.cw_rules.specs.Constants.{more_digits, digits, fraction, exponent_sign, exponent, mantissa, scaled}
use Rattle.cw_rules.specs.Constants.{is_prefixed, hexadecimal, binary, decimal, number, constant}
use Rattle.cw_rules.proofs.{Sizes.run-le, Sizes.digits-le, Sizes.mantissa-le, Sizes.number-le, Choices.if-same}
use Rattle.cw_rules.proofs.{Choices.and-none, Choices.or-first, Choices.or-second, StringPrefixes.prefix-below}
use Rattle.std.proofs.{lemmas.List.get_or_append_left, lemmas.Bool.Decides.nat_tests}
use Rattle.std.specs.Option.{option_map_or}

pub drop-same : (n : ℕ) (bs more : List ℕ) → n ≤ length bs → drop n (bs ++ more) ≡ drop n bs ++ more
drop-same zero bs more h = refl
drop-same (suc n) [] more h = absurd (omega arith)
drop-same (suc n) (b ∷ bs) more h = drop-same n bs more (omega arith)

pub take-same : (n : ℕ) (bs more : List ℕ) → n ≤ length bs → take n (bs ++ more) ≡ take n bs
take-same zero bs more h = refl
take-same (suc n) [] more h = absurd (omega arith)
take-same (suc n) (b ∷ bs) more h = ap (λ l. b ∷ l) (take-same n bs more (omega arith))

-- the byte before which the text may end
pub data Stop : Type 0 where
  At : Stop
  Bar : Stop

abbrev pub byte_of : Stop → ℕ
byte_of At = 64
byte_of Bar = 124

-- what holds of both holds of either
pub of-both : (test : ℕ → Bool) (is : Bool) (s : Stop) → test 64 ≡ is → test 124 ≡ is → test (byte_of s) ≡ is
of-both test is At a b = a
of-both test is Bar a b = b

-- the byte is no bar that stands right before the other
abbrev pub IsApart : Stop → ℕ → List ℕ → Type 0
IsApart Bar byte [] = (byte == 124) ≡ false
IsApart _ _ _ = Unit {0}

pub apart-on : (s : Stop) (byte b : ℕ) (bs : List ℕ) → IsApart s byte (b ∷ bs)
apart-on At byte b bs = tt
apart-on Bar byte b bs = tt

-- ## A byte that a test doesn't take

module _ (stop : ℕ) (more : List ℕ) where
  pub begins-before : (wanted : ℕ) (bs : List ℕ) → (stop == wanted) ≡ false → begins wanted (bs ++ stop ∷ more)
      ≡ begins wanted bs
  begins-before wanted [] h = h
  begins-before wanted (b ∷ bs) h = refl

  begins_by-before : (test : ℕ → Bool) (bs : List ℕ) → test stop ≡ false → begins_by test (bs ++ stop ∷ more)
      ≡ begins_by test bs
  begins_by-before test bs h = grind arith

  pub with-before : (wanted bs : List ℕ) → list_any (λ w. stop == w) wanted ≡ false
      → begins_with wanted (bs ++ stop ∷ more) ≡ begins_with wanted bs
  with-before [] bs h = refl
  with-before (w ∷ ws) [] h = ap (λ t. t && begins_with ws more) (or-first (stop == w) (list_any (λ w. stop == w) ws) h)
  with-before (w ∷ ws) (b ∷ bs) h = ap (λ t. b == w && t)
      (with-before ws bs (or-second (stop == w) (list_any (λ w. stop == w) ws) h))

  pub run-before : (class : Class) (bs : List ℕ) → is_in class stop ≡ false → run class (bs ++ stop ∷ more)
      ≡ run class bs
  run-before class [] h = ap (λ t. if t then 1 + run class more else 0) h
  run-before class (b ∷ bs) h = ap (λ n. if is_in class b then 1 + n else 0) (run-before class bs h)

-- ## The first byte of a rule is the stop

pub section-before : (s : Stop) (more : List ℕ) → begins_section (byte_of s ∷ more) ≡ false
section-before At more = refl
section-before Bar more = refl

-- ## Signs

no-at : (sign : Sign) → list_any (λ w. 64 == w) (spelling sign) ≡ false
no-at sign = grind arith

spelling-same : (s : Stop) (more : List ℕ) (sign : Sign) (byte : ℕ) (bs : List ℕ) → IsApart s byte bs
    → begins_with (spelling sign) (byte ∷ (bs ++ byte_of s ∷ more)) ≡ begins_with (spelling sign) (byte ∷ bs)
spelling-same s more sign byte bs h = grind (arith, with-before, no-at, nat_tests)

longest-same : (s : Stop) (more : List ℕ) (all : List Sign) (byte : ℕ) (bs : List ℕ) → IsApart s byte bs
    → longest all (byte ∷ (bs ++ byte_of s ∷ more)) ≡ longest all (byte ∷ bs)
longest-same s more [] byte bs h = refl
longest-same s more (sign ∷ all) byte bs h =
    λ i. longer (spelling-same s more sign byte bs h i) sign (longest-same s more all byte bs h i)

bar-same : (s : Stop) (more : List ℕ) (ends : Bool) (byte : ℕ) (bs : List ℕ) → IsApart s byte bs → (byte == bar &&
    (ends && not (begins bar (bs ++ byte_of s ∷ more)))) ≡ (byte == bar && (ends && not (begins bar bs)))
bar-same At more ends byte bs h = ap (λ t. byte == bar && (ends && not t)) (begins-before 64 more bar bs refl)
bar-same Bar more ends byte [] h = (λ i. h i && (ends && not true)) ∙ sym (λ i. h i && (ends && not false))
bar-same Bar more ends byte (b ∷ bs) h = refl

-- The bytes behind the stop are any.
module _ (s : Stop) (more : List ℕ) where
  pub begins-same : (wanted : ℕ) (bs : List ℕ) → (64 == wanted) ≡ false → (124 == wanted) ≡ false
      → begins wanted (bs ++ byte_of s ∷ more) ≡ begins wanted bs
  begins-same wanted bs g h = begins-before (byte_of s) more wanted bs (of-both (λ b. b == wanted) false s g h)

  begins_by-same : (test : ℕ → Bool) (bs : List ℕ) → test 64 ≡ false → test 124 ≡ false
      → begins_by test (bs ++ byte_of s ∷ more) ≡ begins_by test bs
  begins_by-same test bs g h = begins_by-before (byte_of s) more test bs (of-both test false s g h)

  pub with-same : (wanted bs : List ℕ) → list_any (λ w. 64 == w) wanted ≡ false
      → list_any (λ w. 124 == w) wanted ≡ false → begins_with wanted (bs ++ byte_of s ∷ more) ≡ begins_with wanted bs
  with-same wanted bs g h =
      with-before (byte_of s) more wanted bs (of-both (λ b. list_any (λ w. b == w) wanted) false s g h)

  pub run-same : (class : Class) (bs : List ℕ) → is_in class 64 ≡ false → is_in class 124 ≡ false
      → run class (bs ++ byte_of s ∷ more) ≡ run class bs
  run-same class bs g h = run-before (byte_of s) more class bs (of-both (is_in class) false s g h)

  pub section-same : (bs : List ℕ) → begins_section (bs ++ byte_of s ∷ more) ≡ begins_section bs
  section-same bs = grind (arith, section-before)

  -- ## Constants

  -- A run of digits goes no further where its class has neither byte.
  more_digits-same : (class : Class) (bs : List ℕ) → is_in class 64 ≡ false → is_in class 124 ≡ false
      → more_digits class (bs ++ byte_of s ∷ more) ≡ more_digits class bs
  more_digits-same class [] g h = grind (arith, nat_tests, of-both)
  more_digits-same class (b ∷ bs) g h = λ i. if is_in class b ||
      (b == apostrophe && begins_by-same (is_in class) bs g h i) then 1 + more_digits-same class bs g h i else 0

  digits-same : (class : Class) (bs : List ℕ) → is_in class 64 ≡ false → is_in class 124 ≡ false
      → digits class (bs ++ byte_of s ∷ more) ≡ digits class bs
  digits-same class bs g h = grind (arith, nat_tests, begins_by-same, more_digits-same)

  fraction-same : (class : Class) (behind : Bool) (bs : List ℕ) → is_in class 64 ≡ false → is_in class 124 ≡ false
      → fraction class behind (bs ++ byte_of s ∷ more) ≡ fraction class behind bs
  fraction-same class behind bs g h = grind (arith, nat_tests, of-both, digits-same, begins-same)

  sign-same : (bs : List ℕ) → exponent_sign (bs ++ byte_of s ∷ more) ≡ exponent_sign bs
  sign-same bs = λ i. if begins-same plus bs refl refl i || begins-same minus bs refl refl i then 1 else 0

  sign-le : (bs : List ℕ) → exponent_sign bs ≤ length bs
  sign-le bs = grind (arith, nat_tests)

  exponent-same : (letter : ℕ) (bs : List ℕ) → is_letter_of letter 64 ≡ false → is_letter_of letter 124 ≡ false
      → exponent letter (bs ++ byte_of s ∷ more) ≡ exponent letter bs
  exponent-same letter bs g h = grind (arith, nat_tests, of-both, sign-le, sign-same, drop-same, digits-same)

  mantissa-same : (class : Class) (bs : List ℕ) → is_in class 64 ≡ false → is_in class 124 ≡ false
      → mantissa class (bs ++ byte_of s ∷ more) ≡ mantissa class bs
  mantissa-same class bs g h = grind (arith, nat_tests, digits-same, drop-same, digits-le, fraction-same)

  scaled-same : (class : Class) (letter : ℕ) (bs : List ℕ) → is_in class 64 ≡ false → is_in class 124 ≡ false
      → is_letter_of letter 64 ≡ false → is_letter_of letter 124 ≡ false
      → scaled class letter (bs ++ byte_of s ∷ more) ≡ scaled class letter bs
  scaled-same class letter bs g h k l = grind (arith, nat_tests, mantissa-same, drop-same, mantissa-le, exponent-same)

  -- a number behind `0` and a letter
  prefixed-same : (letter : ℕ) (class : Class) (size : List ℕ → ℕ) (bs : List ℕ) → is_letter_of letter 64 ≡ false
      → is_letter_of letter 124 ≡ false → is_in class 64 ≡ false → is_in class 124 ≡ false → ((cs : List ℕ) → size
      (cs ++ byte_of s ∷ more) ≡ size cs) → (if is_prefixed letter class (bs ++ byte_of s ∷ more) then 2 + size
      (drop 2 (bs ++ byte_of s ∷ more)) else 0) ≡ (if is_prefixed letter class bs then 2 + size (drop 2 bs) else 0)
  prefixed-same letter class size bs k l g h same = grind (arith, nat_tests, of-both, and-none, begins_by-same)

  hexadecimal-same : (bs : List ℕ) → hexadecimal (bs ++ byte_of s ∷ more) ≡ hexadecimal bs
  hexadecimal-same bs = prefixed-same 120 classes.HexDigit (scaled classes.HexDigit 112) bs refl refl refl refl
      (λ cs. scaled-same classes.HexDigit 112 cs refl refl refl refl)

  binary-same : (bs : List ℕ) → binary (bs ++ byte_of s ∷ more) ≡ binary bs
  binary-same bs = prefixed-same 98 classes.BinaryDigit (digits classes.BinaryDigit) bs refl refl refl refl
      (λ cs. digits-same classes.BinaryDigit cs refl refl)

  decimal-same : (bs : List ℕ) → decimal (bs ++ byte_of s ∷ more) ≡ decimal bs
  decimal-same bs = scaled-same classes.Digit 101 bs refl refl refl refl

  number-same : (bs : List ℕ) → number (bs ++ byte_of s ∷ more) ≡ number bs
  number-same bs = grind (arith, nat_tests, hexadecimal-same, binary-same, decimal-same)

  pub constant-same : (bs : List ℕ) → constant (bs ++ byte_of s ∷ more) ≡ constant bs
  constant-same bs = grind (arith, nat_tests, number-same, drop-same, number-le, run-same)

  -- ## Prefixes of strings

  pub prefix-same : (byte : ℕ) (bs : List ℕ) → prefix_size (byte ∷ (bs ++ byte_of s ∷ more)) ≡ prefix_size (byte ∷ bs)
  prefix-same byte bs = grind (arith, nat_tests, of-both, and-none, begins_by-same)

  -- the byte behind the prefix
  mark-same : (byte : ℕ) (bs : List ℕ) → slice_index (byte ∷ (bs ++ byte_of s ∷ more))
      (prefix_size (byte ∷ (bs ++ byte_of s ∷ more))) ≡ slice_index (byte ∷ bs) (prefix_size (byte ∷ bs))
  mark-same byte bs = grind (arith, nat_tests, prefix-same, get_or_append_left, prefix-below)

  -- ## What begins at a byte

  pub start_of-same : (ends : Bool) (byte : ℕ) (bs : List ℕ) → IsApart s byte bs → ((byte == at_sign) ≡ true → code_at
      (bs ++ byte_of s ∷ more) ≡ code_at bs) → start_of ends byte (bs ++ byte_of s ∷ more) ≡ start_of ends byte bs
  start_of-same ends byte bs apart code = if-same (nat_lt 0 (prefix_size (byte ∷ (bs ++ byte_of s ∷ more))))
      (nat_lt 0 (prefix_size (byte ∷ bs))) _ _ _ _ (ap (nat_lt 0) (prefix-same byte bs)) (λ e. ap start.Quoted
      (mark-same byte bs)) (λ e. if-same (is_letter byte) (is_letter byte) _ _ _ _ refl (λ e. refl) (λ e. if-same
      (nat_lt 0 (constant (byte ∷ (bs ++ byte_of s ∷ more)))) (nat_lt 0 (constant (byte ∷ bs))) _ _ _ _ (ap (nat_lt 0)
      (constant-same (byte ∷ bs))) (λ e. refl) (λ e. if-same (is_mark byte) (is_mark byte) _ _ _ _ refl (λ e. refl)
      (λ e. if-same (byte == slash && begins star (bs ++ byte_of s ∷ more)) (byte == slash && begins star bs) _ _ _ _
      (ap (λ t. byte == slash && t) (begins-same star bs refl refl)) (λ e. refl) (λ e. if-same (byte == slash && begins
      slash (bs ++ byte_of s ∷ more)) (byte == slash && begins slash bs) _ _ _ _ (ap (λ t. byte == slash && t)
      (begins-same slash bs refl refl)) (λ e. refl) (λ e. if-same (byte == at_sign) (byte == at_sign) _ _ _ _ refl
      (λ e. ap start.Code (code e)) (λ e. if-same (byte == bar && (ends && not (begins bar (bs ++ byte_of s ∷ more))))
      (byte == bar && (ends && not (begins bar bs))) _ _ _ _ (bar-same s more ends byte bs apart) (λ e. refl)
      (λ e. ap (λ o. option_map_or start.Sign o start.OtherByte) (longest-same s more all_signs byte bs apart)))))))))

  -- ## Heads and sections

  pub signed-same : (bs : List ℕ) → is_signed (bs ++ byte_of s ∷ more) ≡ is_signed bs
  signed-same bs = grind (arith, nat_tests, with-same, run-same, drop-same, run-le, begins-same)

  white-same : (bs : List ℕ) → behind_white (bs ++ byte_of s ∷ more) ≡ behind_white bs ++ byte_of s ∷ more
  white-same bs = grind (arith, nat_tests, run-same, drop-same, run-le)

  pub name-same : (bs : List ℕ) → name_follows (bs ++ byte_of s ∷ more) ≡ name_follows bs
  name-same bs = ap (begins_by is_letter) (white-same bs) ∙ begins_by-same is_letter (behind_white bs) refl refl

  is_parameter-same : (bs : List ℕ) → is_parameter (bs ++ byte_of s ∷ more) ≡ is_parameter bs
  is_parameter-same bs = λ i. begins_by-same is_letter bs refl refl i
      || (begins-same comma bs refl refl i || (begins-same right_paren bs refl refl i || with-same (codes "...") bs refl
      refl i))

  pub parameter-same : (bs : List ℕ) → parameter_follows (bs ++ byte_of s ∷ more) ≡ parameter_follows bs
  parameter-same bs = ap is_parameter (white-same bs) ∙ is_parameter-same (behind_white bs)

  pub paren-same : (bs : List ℕ) → begins left_paren (drop (run classes.Word (bs ++ byte_of s ∷ more))
      (bs ++ byte_of s ∷ more)) ≡ begins left_paren (drop (run classes.Word bs) bs)
  paren-same bs = grind (arith, nat_tests, run-same, drop-same, run-le, begins-same)

  pub include-same : (bs : List ℕ) → is_include (bs ++ byte_of s ∷ more) ≡ is_include bs
  include-same bs = λ i. with-same (codes "include") bs refl refl i && run-same classes.Word bs refl refl i == 7

  -- ## Words of directives

  space-same : (last : ℕ) (bs : List ℕ) → behind_space last (bs ++ byte_of s ∷ more)
      ≡ behind_space last bs ++ byte_of s ∷ more
  space-same last [] = grind (arith, nat_tests, byte_of)
  space-same last (b ∷ bs) = grind (arith, nat_tests, begins-same, space-same b bs)

  has-same : (bs : List ℕ) → has_parameters (bs ++ byte_of s ∷ more) ≡ has_parameters bs
  has-same bs = ap begins_parameters (space-same 0 bs)
      ∙ (λ i. begins_by-same is_letter (behind_space 0 bs) refl refl i && paren-same (behind_space 0 bs) i)

  is_define-same : (bs : List ℕ) → is_define (bs ++ byte_of s ∷ more) ≡ is_define bs
  is_define-same bs = λ i. with-same (codes "define") bs refl refl i && run-same classes.Word bs refl refl i == 6

  defines-same : (bs : List ℕ) → defines_macro (bs ++ byte_of s ∷ more) ≡ defines_macro bs
  defines-same bs = ap (λ t. t && has_parameters (drop 6 (bs ++ byte_of s ∷ more))) (is_define-same bs)
      ∙ by (is_define bs) refl
    where
      fits : is_define bs ≡ true → 6 ≤ length bs
      fits h = grind (arith, nat_tests, run-le classes.Word bs)

      by : (t : Bool) → is_define bs ≡ t → (t && has_parameters (drop 6 (bs ++ byte_of s ∷ more)))
          ≡ (t && has_parameters (drop 6 bs))
      by true e = ap has_parameters (drop-same 6 bs (byte_of s ∷ more) (fits e)) ∙ has-same (drop 6 bs)
      by false e = refl

  pub directive-same : (part : Part) (bs : List ℕ) → directive_at part (bs ++ byte_of s ∷ more) ≡ directive_at part bs
  directive-same part bs = grind (arith, defines-same)

  pub depth-same : (bs : List ℕ) → depth_size (bs ++ byte_of s ∷ more) ≡ depth_size bs
  depth-same bs = λ i. if begins-same star bs refl refl i then 1 else run-same classes.Digit bs refl refl i
