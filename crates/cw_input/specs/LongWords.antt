-- Words of a command line that begin with two hyphens and a letter.
use Rattle.std.specs.Prelude.{ℕ, ◌==◌, ◌&&◌, ◌||◌, Bool, false, not, List, [], ◌∷◌, Option, find, codes, bytes_eq}
use Rattle.std.specs.Prelude.{if◌then◌else◌}
use Rattle.std.specs.Char.{is_ascii_alphabetic}
use Rattle.cw_base.specs.Bytes.{byte_of}

-- a long word begins with two hyphens and an ASCII letter
abbrev pub is_long : List ℕ → Bool
is_long (first ∷ second ∷ third ∷ rest) = first == byte_of "-" && second == byte_of "-" && is_ascii_alphabetic third
is_long word = false

-- The option word that a word stands for. Two long words stand for letters, and each other one for no letter.
abbrev pub option_word : List ℕ → List ℕ
option_word word =
    if bytes_eq word (codes "--quiet") then codes "-bph"
    else if bytes_eq word (codes "--verbose") then codes "+bph"
    else if is_long word then [] else word

-- a long word that stands for no letters
abbrev pub is_unknown : List ℕ → Bool
is_unknown word = is_long word && not (bytes_eq word (codes "--quiet") || bytes_eq word (codes "--verbose"))

abbrev pub first_unknown : List (List ℕ) → Option (List ℕ)
first_unknown words = find is_unknown words
