-- The models beside `specs/Walking`.
use Rattle.std.specs.Prelude.{◌≡◌, ℕ, zero, suc, ◌+◌, ◌<◌, ◌≤◌, nat_eq, List, [], ◌∷◌, length, Option, Some}
use Rattle.std.specs.Prelude.{if◌then◌else◌}
use Rattle.std.specs.Prelude.{None, take, drop, slice_index_or, slice_get}
use Rattle.cw_names.specs.declared.NameId.{NameId}
use Rattle.cw_trees.specs.Tree.{Tree, Empty, Then, Sub, Inner, Search, Found, Stopped, Nothing, search_leaf}
use Rattle.cw_trees.specs.Tree.{first_ident}
use Rattle.cw_tokens.specs.declared.token.Token.{Token}
use Rattle.cw_tokens.specs.declared.token.Token.TheVariants.{Ident}
use Rattle.cw_tokens.specs.declared.store.Link.{Link}
use Rattle.cw_tokens.specs.declared.walk.Sight.{Sight}
use Rattle.cw_tokens.specs.declared.walk.Sight.TheVariants.{Name, Stop, Down, Pass}
use Rattle.cw_tokens.specs.declared.walk.Spot.{Spot}
use Rattle.cw_tokens.specs.Shapes.{Shape, Plain, Below, InnerBelow, shape, tree_in, trees_from, unfolded}
use Rattle.cw_tokens.specs.model.Stored.{no_link}

-- the name of a list that is exactly one identifier
abbrev pub only_name_of : List Token → Option NameId
only_name_of (Ident name number ∷ []) = Some name
only_name_of _ = None

-- a search passes over a token
abbrev pub IsPassed : Shape → Type 0
IsPassed (Plain leaf) = search_leaf leaf ≡ Nothing
IsPassed (Below list) = ⊥
IsPassed (InnerBelow list) = Unit {0}

abbrev pub stops_at : Shape → Search
stops_at (Plain leaf) = search_leaf leaf
stops_at (Below list) = Nothing
stops_at (InnerBelow list) = Nothing

-- what a search does at a token
abbrev pub Shows : Token → Sight → Type 0
Shows token (Name name number) = token ≡ Ident name number
Shows token Stop = stops_at (shape token) ≡ Stopped
Shows token (Down list) = shape token ≡ Below list
Shows token Pass = IsPassed (shape token)

-- what stands before place p in list l
abbrev pub before : List (List Token) → ℕ → ℕ → Tree
before lists l p = tree_in (trees_from [] lists) (take p (slice_index_or lists l []))

-- a way down from the root to a list, before which stands nothing that ends a search
pub data Path (lists : List (List Token)) (root : ℕ) : ℕ → Type 0 where
  top : Path lists root root
  down : (l p x : ℕ) (token : Token) → slice_get (slice_index_or lists l []) p ≡ Some token → shape token ≡ Below x
      → first_ident (before lists l p) ≡ Nothing → Path lists root l → Path lists root x

-- the search stands at a place of a list and has found nothing
pub record Walks (lists : List (List Token)) (root list place : ℕ) : Type 0 where
  pub path : Path lists root list
  pub none : first_ident (before lists list place) ≡ Nothing
  pub inside : list < length lists
  pub within : place ≤ length (slice_index_or lists list [])

-- the spot holds the first identifier of the tree
pub record Finds (lists : List (List Token)) (root : ℕ) (spot : Spot) : Type 0 where
  pub walks : Walks lists root spot.list spot.place
  pub token : slice_get (slice_index_or lists spot.list []) spot.place ≡ Some (Ident spot.name spot.number)
  pub first : first_ident (unfolded lists root) ≡ Found spot.name.index

-- how much of a walk is still to come: the rest of the list, and what stands behind it on the way up
abbrev pub size : Tree → ℕ
size Empty = 0
size (Then leaf rest) = 1 + size rest
size (Sub tree rest) = 2 + (size tree + size rest)
size (Inner tree rest) = 2 + (size tree + size rest)

abbrev pub size_from : List (List Token) → ℕ → ℕ → ℕ
size_from lists l p = size (tree_in (trees_from [] lists) (drop p (slice_index_or lists l [])))

abbrev pub size_above : List (List Token) → List Link → ℕ → ℕ → ℕ → ℕ
size_above lists links root zero l = 0
size_above lists links root (suc n) l =
    if nat_eq l root then 0
    else 1 + (size_from lists (slice_index_or links l no_link).list (slice_index_or links l no_link).place
    + size_above lists links root n (slice_index_or links l no_link).list)
