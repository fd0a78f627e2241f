-- The bytes and sets of bytes that the rules of the scanner name.
use Rattle.std.specs.Prelude.{ℕ, ◌+◌, Bool, true, false, ◌&&◌, ◌||◌, not, ◌==◌, nat_le, List, [], ◌∷◌, if◌then◌else◌}
use Rattle.cw_base.specs.Bytes.{byte_of, newline}
use Rattle.cw_base.specs.Text.{is_blank, bar}
use Rattle.cw_rules.specs.declared.classes.Class.{Class}
use Rattle.cw_rules.specs.declared.classes.Class.TheVariants.{Blank, White, Word, Digit, HexDigit, BinaryDigit, Suffix}
use Rattle.cw_rules.specs.declared.classes.Class.TheVariants.{LimboText, TexText, IncludeName}

abbrev pub quote : ℕ
quote = 34

abbrev pub hash : ℕ
hash = 35

abbrev pub apostrophe : ℕ
apostrophe = 39

abbrev pub left_paren : ℕ
left_paren = 40

abbrev pub right_paren : ℕ
right_paren = 41

abbrev pub star : ℕ
star = 42

abbrev pub plus : ℕ
plus = 43

abbrev pub comma : ℕ
comma = 44

abbrev pub minus : ℕ
minus = 45

abbrev pub dot : ℕ
dot = 46

abbrev pub slash : ℕ
slash = 47

abbrev pub digit_0 : ℕ
digit_0 = 48

abbrev pub less : ℕ
less = 60

abbrev pub equals : ℕ
equals = 61

abbrev pub greater : ℕ
greater = 62

abbrev pub at_sign : ℕ
at_sign = 64

abbrev pub left_brace : ℕ
left_brace = 123

abbrev pub right_brace : ℕ
right_brace = 125

abbrev pub is_between : ℕ → ℕ → ℕ → Bool
is_between low high byte = nat_le low byte && nat_le byte high

-- an ASCII digit
abbrev pub is_digit : ℕ → Bool
is_digit byte = is_between (byte_of "0") (byte_of "9") byte

-- an ASCII letter in either case, by its small form
abbrev pub is_letter_of : ℕ → ℕ → Bool
is_letter_of small byte = byte == small || byte + 32 == small

-- A letter is an ASCII letter, `_`, `$` or a byte of 128 and above.
abbrev pub is_letter : ℕ → Bool
is_letter byte =
    is_between (byte_of "a") (byte_of "z") byte || is_between (byte_of "A") (byte_of "Z") byte ||
    byte == byte_of "_" || byte == byte_of "$" || nat_le 128 byte

-- A string goes from a mark to the same one.
abbrev pub is_mark : ℕ → Bool
is_mark byte = byte == quote || byte == apostrophe

abbrev pub is_hex_digit : ℕ → Bool
is_hex_digit byte =
    is_digit byte || is_between (byte_of "a") (byte_of "f") byte || is_between (byte_of "A") (byte_of "F") byte

-- `u`, `l` and `f` may stand behind a constant
abbrev pub is_in : Class → ℕ → Bool
is_in Blank byte = is_blank byte
is_in White byte = byte == newline || is_blank byte
is_in Word byte = is_letter byte || is_digit byte
is_in Digit byte = is_digit byte
is_in HexDigit byte = is_hex_digit byte
is_in BinaryDigit byte = is_between (byte_of "0") (byte_of "1") byte
is_in Suffix byte =
    is_letter_of (byte_of "u") byte || is_letter_of (byte_of "l") byte || is_letter_of (byte_of "f") byte
is_in LimboText byte = not (byte == at_sign)
is_in TexText byte = not (byte == at_sign || byte == bar)
is_in IncludeName byte = not (byte == greater || byte == newline)

-- How many bytes of the class stand in a row at the beginning.
abbrev pub run : Class → List ℕ → ℕ
run class [] = 0
run class (byte ∷ bytes) = if is_in class byte then 1 + run class bytes else 0

-- the bytes begin with this byte
abbrev pub begins : ℕ → List ℕ → Bool
begins wanted [] = false
begins wanted (byte ∷ bytes) = byte == wanted

-- the bytes begin with one that passes the test
abbrev pub begins_by : (ℕ → Bool) → List ℕ → Bool
begins_by test [] = false
begins_by test (byte ∷ bytes) = test byte

-- the bytes begin with these
abbrev pub begins_with : List ℕ → List ℕ → Bool
begins_with [] bytes = true
begins_with (wanted ∷ more) [] = false
begins_with (wanted ∷ more) (byte ∷ bytes) = byte == wanted && begins_with more bytes
