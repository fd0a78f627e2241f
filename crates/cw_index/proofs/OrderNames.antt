-- The names of headings, one behind the other.
use Rattle.cw_index.proofs.Terms.{◌≡◌, ℕ, ◌<◌, List, [], ◌∷◌, ◌++◌, append_assoc, length, map, arith, map-append}
use Rattle.cw_index.proofs.Terms.{slice_get_within, Entry, NameId, Heading, IsNamed, entry_of, row_of}

-- the names so far, and those of the headings that are still to come
abbrev pub names_with : List NameId → List Heading → List ℕ
names_with order later = map (λ id. id.index) order ++ map (λ row. row.name) (map row_of later)

-- The name of the next heading goes behind those before it.
pub order-next : (order : List NameId) (h : Heading) (later : List Heading)
    → names_with (order ++ h.id ∷ []) later ≡ names_with order (h ∷ later)
order-next order h later = grind (arith, map-append, append_assoc)

pub named-within : (names : List Entry) (h : Heading) → IsNamed names h → h.id.index < length names
named-within names h is = slice_get_within names h.id.index (entry_of h) is
