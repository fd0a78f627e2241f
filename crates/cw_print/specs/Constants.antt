-- What a constant prints.
use Rattle.std.specs.Prelude.{ℕ, ◌-◌, ◌||◌, ◌==◌, nat_le, Bool, List, [], ◌∷◌, ◌++◌, if◌then◌else◌}
use Rattle.cw_base.specs.Bytes.{byte_of, backslash, space}
use Rattle.cw_rules.specs.Bytes.{is_digit, is_hex_digit, apostrophe, plus, minus, dot, digit_0}

-- `\$` and its upper case letter for each letter behind the number
abbrev pub upper : ℕ → ℕ
upper byte = if nat_le (byte_of "a") byte then byte - (byte_of "a" - byte_of "A") else byte

abbrev pub suffix : List ℕ → List ℕ
suffix [] = []
suffix (byte ∷ bytes) = backslash ∷ byte_of "$" ∷ upper byte ∷ suffix bytes

-- `\ ` for a `'` between two digits
abbrev pub number_byte : ℕ → List ℕ
number_byte byte = if byte == apostrophe then backslash ∷ space ∷ [] else byte ∷ []

-- digits and a sign up to the suffix
abbrev pub is_exponent_byte : ℕ → Bool
is_exponent_byte byte = is_digit byte || byte == plus || byte == minus || byte == apostrophe

abbrev pub exponent_bytes : List ℕ → List ℕ
exponent_bytes [] = []
exponent_bytes (byte ∷ bytes) =
    if is_exponent_byte byte then number_byte byte ++ exponent_bytes bytes
    else suffix (byte ∷ bytes)

-- `\_` for the letter of an exponent
abbrev pub behind_mantissa : ℕ → List ℕ → List ℕ
behind_mantissa byte bytes =
    if byte == byte_of "E" || byte == byte_of "e" then backslash ∷ byte_of "_" ∷ exponent_bytes bytes
    else suffix (byte ∷ bytes)

abbrev pub is_mantissa_byte : ℕ → Bool
is_mantissa_byte byte = is_digit byte || byte == dot || byte == apostrophe

abbrev pub mantissa_bytes : List ℕ → List ℕ
mantissa_bytes [] = []
mantissa_bytes (byte ∷ bytes) =
    if is_mantissa_byte byte then number_byte byte ++ mantissa_bytes bytes
    else behind_mantissa byte bytes

-- The letter of a hexadecimal exponent prints itself.
abbrev pub behind_hex_digits : ℕ → List ℕ → List ℕ
behind_hex_digits byte bytes =
    if byte == byte_of "P" || byte == byte_of "p" then byte ∷ exponent_bytes bytes else suffix (byte ∷ bytes)

abbrev pub is_hex_byte : ℕ → Bool
is_hex_byte byte = is_hex_digit byte || byte == dot || byte == apostrophe

abbrev pub hex_digits : List ℕ → List ℕ
hex_digits [] = []
hex_digits (byte ∷ bytes) =
    if is_hex_byte byte then number_byte byte ++ hex_digits bytes
    else behind_hex_digits byte bytes

-- `\^` for `0x`, `\\` for `0b`, and `\~` for a `0` before a digit
abbrev pub behind_zero : ℕ → List ℕ → List ℕ
behind_zero byte bytes =
    if byte == byte_of "X" || byte == byte_of "x" then backslash ∷ byte_of "^" ∷ hex_digits bytes
    else if byte == byte_of "B" || byte == byte_of "b" then backslash ∷ backslash ∷ mantissa_bytes bytes
    else if is_digit byte then backslash ∷ byte_of "~" ∷ mantissa_bytes (byte ∷ bytes)
    else digit_0 ∷ mantissa_bytes (byte ∷ bytes)

abbrev pub constant_bytes : List ℕ → List ℕ
constant_bytes [] = []
constant_bytes (byte ∷ []) = mantissa_bytes (byte ∷ [])
constant_bytes (byte ∷ next ∷ bytes) =
    if byte == digit_0 then behind_zero next bytes
    else mantissa_bytes (byte ∷ next ∷ bytes)
