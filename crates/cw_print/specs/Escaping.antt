-- Bytes that TeX would take for its own, and texts in typewriter type.
use Rattle.std.specs.Prelude.{ℕ, ◌||◌, ◌==◌, Bool, List, [], ◌∷◌, ◌++◌, codes, if◌then◌else◌}
use Rattle.cw_base.specs.Bytes.{byte_of, backslash}
use Rattle.cw_base.specs.Text.{is_blank}

-- Escaped text has a backslash before each blank and before each of `\`, `#`, `%`, `$`, `^`, `{`, `}`, `~`, `&` and
-- `_`.
abbrev pub is_tex_sign : ℕ → Bool
is_tex_sign byte =
    byte == backslash || byte == byte_of "#" || byte == byte_of "%" || byte == byte_of "$" || byte == byte_of "^" ||
    byte == byte_of "{" || byte == byte_of "}" || byte == byte_of "~" || byte == byte_of "&" || byte == byte_of "_"

abbrev pub is_escaped : ℕ → Bool
is_escaped byte = is_blank byte || is_tex_sign byte

abbrev pub escaped_byte : ℕ → List ℕ
escaped_byte byte = if is_escaped byte then backslash ∷ byte ∷ [] else byte ∷ []

abbrev pub escaped : List ℕ → List ℕ
escaped [] = []
escaped (byte ∷ bytes) = escaped_byte byte ++ escaped bytes

-- a macro and its argument in braces
abbrev pub braced : List ℕ → List ℕ → List ℕ
braced macro bytes = macro ++ (codes "{" ++ (bytes ++ codes "}"))

abbrev pub typewriter : List ℕ → List ℕ
typewriter bytes = braced (codes "\\.") (escaped bytes)
