-- How many bytes a constant takes at the beginning of these bytes, or 0 where none begins.
use Rattle.std.specs.Prelude.{ℕ, ◌+◌, Bool, ◌&&◌, ◌||◌, not, ◌==◌, nat_lt, List, [], ◌∷◌, drop, if◌then◌else◌}
use Rattle.std.specs.Prelude.{if◌then◌else◌}
use Rattle.cw_base.specs.Bytes.{byte_of}
use Rattle.cw_rules.specs.declared.classes.Class.{Class}
use Rattle.cw_rules.specs.declared.classes.Class.TheVariants.{Digit, HexDigit, BinaryDigit, Suffix}
use Rattle.cw_rules.specs.Bytes.{begins, begins_by, is_in, is_letter_of, run, apostrophe, plus, minus, dot, digit_0}

-- A run of digits goes on with a digit of its class, and with a `'` between two of them.
abbrev pub digits_go_on : Class → ℕ → List ℕ → Bool
digits_go_on class byte bytes = is_in class byte || (byte == apostrophe && begins_by (is_in class) bytes)

-- how many bytes go on with a run behind one of its digits
abbrev pub more_digits : Class → List ℕ → ℕ
more_digits class [] = 0
more_digits class (byte ∷ bytes) = if digits_go_on class byte bytes then 1 + more_digits class bytes else 0

-- how many bytes a run of digits has, which begins with a digit
abbrev pub digits : Class → List ℕ → ℕ
digits class bytes = if begins_by (is_in class) bytes then more_digits class bytes else 0

-- A dot that no other dot follows, and its digits: any number of them behind a digit, else at least one.
abbrev pub fraction : Class → Bool → List ℕ → ℕ
fraction class behind_digit bytes =
    if begins dot bytes && (not (begins dot (drop 1 bytes)) && (behind_digit || nat_lt 0 (digits class (drop 1 bytes))))
    then 1 + digits class (drop 1 bytes)
    else 0

abbrev pub exponent_sign : List ℕ → ℕ
exponent_sign bytes = if begins plus bytes || begins minus bytes then 1 else 0

-- the exponent's letter in either case, perhaps a sign, and at least one decimal digit
abbrev pub exponent : ℕ → List ℕ → ℕ
exponent letter bytes =
    if begins_by (is_letter_of letter) bytes && nat_lt 0 (digits Digit (drop (1 + exponent_sign (drop 1 bytes)) bytes))
    then (1 + exponent_sign (drop 1 bytes)) + digits Digit (drop (1 + exponent_sign (drop 1 bytes)) bytes)
    else 0

-- digits, perhaps with a fraction, or a fraction alone
abbrev pub mantissa : Class → List ℕ → ℕ
mantissa class bytes =
    digits class bytes + fraction class (nat_lt 0 (digits class bytes)) (drop (digits class bytes) bytes)

-- a mantissa and perhaps an exponent
abbrev pub scaled : Class → ℕ → List ℕ → ℕ
scaled class letter bytes =
    if nat_lt 0 (mantissa class bytes)
    then mantissa class bytes + exponent letter (drop (mantissa class bytes) bytes)
    else 0

-- `0`, this letter in either case, and a digit
abbrev pub is_prefixed : ℕ → Class → List ℕ → Bool
is_prefixed letter class bytes =
    begins digit_0 bytes && (begins_by (is_letter_of letter) (drop 1 bytes) && begins_by (is_in class) (drop 2 bytes))

-- `0x` and a hexadecimal number, whose exponent has a `p`
abbrev pub hexadecimal : List ℕ → ℕ
hexadecimal bytes =
    if is_prefixed (byte_of "x") HexDigit bytes then 2 + scaled HexDigit (byte_of "p") (drop 2 bytes) else 0

-- `0b` and binary digits
abbrev pub binary : List ℕ → ℕ
binary bytes = if is_prefixed (byte_of "b") BinaryDigit bytes then 2 + digits BinaryDigit (drop 2 bytes) else 0

-- a decimal number, which begins with `0` where it is octal
abbrev pub decimal : List ℕ → ℕ
decimal bytes = scaled Digit (byte_of "e") bytes

abbrev pub number : List ℕ → ℕ
number bytes =
    if nat_lt 0 (hexadecimal bytes) then hexadecimal bytes
    else if nat_lt 0 (binary bytes) then binary bytes else decimal bytes

-- a number and any number of suffix letters
abbrev pub constant : List ℕ → ℕ
constant bytes = if nat_lt 0 (number bytes) then number bytes + run Suffix (drop (number bytes) bytes) else 0
