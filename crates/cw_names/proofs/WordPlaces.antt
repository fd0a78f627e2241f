-- Places of names, for worked rows: those of built-in words, and those of a web's own names behind them.
use Rattle.std.specs.Prelude.{ℕ, ◌+◌, nat_eq, List, [], ◌∷◌, codes, length, if◌then◌else◌}
use Rattle.std.specs.Cmp.Lexicographic.{pointwise}
use Rattle.cw_names.specs.Names.{Entry}
use Rattle.cw_names.specs.Words.{built_in_words}
use Prim.Native.String.{String}

-- the place of the web's own name of this number, from 0 on
abbrev pub own : ℕ → ℕ
own number = length built_in_words + number

-- where an entry of this text stands
abbrev pub place_in : List Entry → List ℕ → ℕ
place_in [] text = 0
place_in (entry ∷ entries) text = if pointwise nat_eq entry.text text then 0 else place_in entries text + 1

-- the place of a built-in word
abbrev pub word : String → ℕ
word text = place_in built_in_words (codes text)
