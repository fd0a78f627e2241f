-- The bytes that strings and include names say, and how long texts are divided.
use Rattle.std.specs.Prelude.{ℕ, ◌+◌, ◌&&◌, ◌==◌, nat_le, Bool, List, [], ◌∷◌, ◌++◌, codes, length, if◌then◌else◌}
use Rattle.std.specs.Prelude.{not}
use Rattle.cw_base.specs.Bytes.{backslash, newline}
use Rattle.cw_rules.specs.Bytes.{begins}
use Rattle.cw_rules.specs.ControlTexts.{is_at_pair}
use Rattle.cw_print.specs.Escaping.{braced, escaped}

-- In a string `@@` is one `@`, and a backslash and a line's end print nothing. Any other byte behind a backslash is
-- taken along with it.
abbrev pub is_continued : ℕ → ℕ → Bool
is_continued byte next = byte == backslash && next == newline

abbrev pub is_pair : ℕ → ℕ → List ℕ → Bool
is_pair byte next bytes =
    byte == backslash && not (next == backslash && begins newline bytes)

abbrev pub string_bytes : List ℕ → List ℕ
string_bytes [] = []
string_bytes (byte ∷ []) = byte ∷ []
string_bytes (byte ∷ next ∷ bytes) =
    if is_continued byte next then string_bytes bytes
    else if is_pair byte next bytes then byte ∷ next ∷ string_bytes bytes
    else if is_at_pair byte next then byte ∷ string_bytes bytes
    else byte ∷ string_bytes (next ∷ bytes)

-- in the name of a file that a `#` line includes `@@` is one `@`
abbrev pub include_bytes : List ℕ → List ℕ
include_bytes [] = []
include_bytes (byte ∷ []) = byte ∷ []
include_bytes (byte ∷ next ∷ bytes) =
    if is_at_pair byte next then byte ∷ include_bytes bytes else byte ∷ include_bytes (next ∷ bytes)

-- ## Long texts

-- A text falls into units, which stay whole: a backslash and the byte behind it, or one byte.
abbrev pub units : List ℕ → List (List ℕ)
units [] = []
units (byte ∷ []) = (byte ∷ []) ∷ []
units (byte ∷ next ∷ bytes) =
    if byte == backslash then (byte ∷ next ∷ []) ∷ units bytes
    else (byte ∷ []) ∷ units (next ∷ bytes)

-- The text is divided before each unit before which 20 bytes or more of it have come, since the last division or the
-- beginning.
abbrev pub portion_size : ℕ
portion_size = 20

abbrev pub division : List ℕ
division = codes "}\\)\\.{"

abbrev pub divided_units : ℕ → List (List ℕ) → List ℕ
divided_units come [] = []
divided_units come (unit ∷ rest) =
    if nat_le portion_size come then division ++ (escaped unit ++ divided_units (length unit) rest)
    else escaped unit ++ divided_units (come + length unit) rest

abbrev pub divided : List ℕ → List ℕ
divided text = divided_units 0 (units text)

-- a text in typewriter type at which a line may be broken
abbrev pub divided_typewriter : List ℕ → List ℕ
divided_typewriter text = braced (codes "\\.") (divided text)
