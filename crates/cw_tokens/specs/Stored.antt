-- What contracts see of a store, and what its fields keep.
use Rattle.std.specs.Prelude.{◌≡◌, ℕ, ◌+◌, ◌<◌, List, [], ◌∷◌, ◌++◌, length}
use Rattle.std.specs.Prelude.{Option, Some, None}
use Rattle.cw_tokens.specs.declared.token.Token.{Token}
use Rattle.cw_tokens.specs.Shapes.{shape, ref_of}
use Rattle.cw_tokens.specs.References.{IsUnreferred}

-- the finished lists, the list that is being built where one is, and how many tokens there is room for
pub record StoredLists : Type 0 where
  pub lists : List (List Token)
  pub building : Option (List Token)
  pub spare : ℕ

-- all lists, the one that is being built last
abbrev pub with_built : List (List Token) → Option (List Token) → List (List Token)
with_built lists None = lists
with_built lists (Some tokens) = lists ++ tokens ∷ []

abbrev pub all_lists : StoredLists → List (List Token)
all_lists s = with_built s.lists s.building

-- a token may be pushed: if it refers to a list, then to one of the store to which no list refers
abbrev pub MayBePushed : StoredLists → Token → Type 0
MayBePushed s token = (x : ℕ) → ref_of (shape token) ≡ Some x → (x < length s.lists) × IsUnreferred (all_lists s) x
