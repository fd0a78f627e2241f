-- Entries differ, since their keys do.
use Rattle.cw_names.proofs.Terms.{◌≡◌, false, List, [], ◌∷◌, map, sym, ◌∙◌, AllByRecursion, keys_of, Cat, Key, is_entry}
use Rattle.cw_names.proofs.Terms.{AreDistinct, entry_of}
use Rattle.std.specs.List.{IsDistinct}
use Rattle.cw_names.proofs.Lookup.{key_eq, key_eq-is}

apart : (k : Key) (entries : List (Key × Cat)) → AllByRecursion (λ other. key_eq k other ≡ false) (keys_of entries)
    → AllByRecursion (λ other. is_entry k.kind k.text.items other ≡ false) (map entry_of entries)
apart k [] all = all
apart k (e ∷ entries) all = (sym (key_eq-is k e) ∙ all.0, apart k entries all.1)

pub entries-distinct : (entries : List (Key × Cat)) → IsDistinct key_eq (keys_of entries)
    → AreDistinct (map entry_of entries)
unfolding IsDistinct
entries-distinct [] distinct = distinct
entries-distinct (e ∷ entries) distinct = (apart e.0 entries distinct.0, entries-distinct entries distinct.1)
