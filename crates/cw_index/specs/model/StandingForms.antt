-- The section names that stand in the web, as they lie in memory.
use Rattle.std.specs.Prelude.{◌≡◌, ℕ, ◌⊎◌, true, false, List, [], ◌∷◌, Option, Some, None, slice_index_or, map}
use Rattle.std.specs.Prelude.{slice_get}
use Rattle.std.specs.declared.cmp.Ordering.{Ordering}
use Rattle.std.specs.declared.cmp.Ordering.TheVariants.{Equal, Greater}
use Rattle.cw_secnames.specs.Kept.{SecName}
use Rattle.cw_index.specs.declared.standing.Listed.{Listed}
use Rattle.cw_index.specs.declared.standing.Sorting.{Sorting}
use Rattle.cw_index.specs.declared.standing.Standing.{Standing}
use Rattle.cw_index.specs.Standing.{StandingName, stand_cmp}

abbrev pub stand_of : Standing → StandingName
stand_of s = record {
  kind = s.kind;
  text = s.text.now;
  listed = record { id = s.id; place = s.place };
}

abbrev pub stands_of : Option Standing → List StandingName
stands_of None = []
stands_of (Some s) = stand_of s ∷ []

-- a key that compares equal stands behind lesser ones alone
abbrev pub Holds : {K : Type 0} → (K → K → Ordering) → K → List K → Type 0
Holds order x [] = ⊥
Holds order x (k ∷ keys) = (order x k ≡ Equal) ⊎ ((order x k ≡ Greater) × Holds order x keys)

-- a name stands among others, wherever it stands in the web
abbrev pub HoldsName : List StandingName → SecName → Type 0
HoldsName stands n = (l : Listed) → Holds stand_cmp (record { kind = n.kind; text = n.text; listed = l }) stands

-- the kept names that are said to be entered stand there
abbrev pub IsSorting : List SecName → Sorting → Type 0
IsSorting names s = (k : ℕ) (n : SecName) → slice_index_or s.entered.items k false ≡ true → slice_get names k ≡ Some n
    → HoldsName (map stand_of s.stands.keys) n
