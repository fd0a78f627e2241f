-- Tables of words in memory, each of which is put into the hash table with its category.
use Rattle.std.specs.Prelude.{ℕ, List, [], ◌∷◌, if◌then◌else◌}
use denote.Bor.{Bor}
use Rattle.cw_base.specs.declared.category.Cat.{Cat}
use Rattle.cw_names.specs.declared.entry.EntryKind.TheVariants.{Ident}
use Rattle.cw_names.specs.Names.{Entry, is_entry}

-- the entries with a word and its category: a new one is last, a present one keeps its place
abbrev pub with_word : List ℕ × Cat → List Entry → List Entry
with_word w [] = record { kind = Ident; text = w.0; category = w.1 } ∷ []
with_word w (entry ∷ entries) =
    if is_entry Ident w.0 entry then record entry { category = w.1 } ∷ entries else entry ∷ with_word w entries

unfoldable pub with_table : List (List ℕ × Cat) → List Entry → List Entry
with_table [] entries = entries
with_table (w ∷ words) entries = with_table words (with_word w entries)

-- a word of a table in memory
abbrev pub row : Bor (List ℕ) × Cat → List ℕ × Cat
row w = (w.0.now, w.1)
