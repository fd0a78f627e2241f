-- Bytes by the characters that they are.
use Rattle.std.specs.Prelude.{ℕ, codes, slice_index}
use Prim.Native.String.{String}

-- the byte of a character
abbrev pub byte_of : String → ℕ
byte_of character = slice_index (codes character) 0

abbrev pub tab : ℕ
tab = 9

-- the byte that ends a line
abbrev pub newline : ℕ
newline = 10

abbrev pub vertical_tab : ℕ
vertical_tab = 11

abbrev pub form_feed : ℕ
form_feed = 12

abbrev pub carriage_return : ℕ
carriage_return = 13

abbrev pub space : ℕ
space = 32

abbrev pub backslash : ℕ
backslash = 92
