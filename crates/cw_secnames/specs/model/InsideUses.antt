-- How the pairs of a place and a name lie in memory.
use Rattle.std.specs.Prelude.{ℕ, ◌<◌, List, length, slice_index_or}
use Rattle.cw_secnames.specs.declared.name_uses.Pair.{Pair}
use Rattle.cw_secnames.specs.Uses.{NameUse}

abbrev pub use_of : Pair → NameUse
use_of p = record { place = p.place; name = p.name }

-- The pairs stand by ascending place.
abbrev pub AreAscending : List Pair → Type 0
AreAscending pairs =
    (i j : ℕ) (d : Pair) → i < j → j < length pairs
    → (slice_index_or pairs i d).place < (slice_index_or pairs j d).place
