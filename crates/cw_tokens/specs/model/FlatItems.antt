-- The models beside `specs/FlatItems`.
use Rattle.std.specs.Prelude.{◌≡◌, ℕ, ◌+◌, ◌<◌, ◌≤◌, List, [], ◌∷◌, ◌++◌, length, Option, Some, None, drop}
use Rattle.std.specs.Prelude.{slice_index_or, slice_get}
use Rattle.cw_trees.specs.Flat.{Item, Close as close_item, flat, leaf_item}
use Rattle.cw_tokens.specs.declared.token.Token.{Token}
use Rattle.cw_tokens.specs.declared.walk.FlatPart.{FlatPart}
use Rattle.cw_tokens.specs.declared.walk.FlatPart.TheVariants.{Leaf, Below, InnerBelow}
use Rattle.cw_tokens.specs.Shapes.{Shape, Plain, Below as below, InnerBelow as inner_below, shape, tree_in, trees_from}
use Rattle.cw_tokens.specs.References.{Reach, here, next}
use Rattle.cw_tokens.specs.FlatItems.{item_is}

-- what a token is: an item of its own, or a list below it
abbrev pub IsPart : Shape → FlatPart → Type 0
IsPart (Plain leaf) (Leaf item) = leaf_item leaf ≡ item_is item
IsPart (below list) (Below id) = list ≡ id
IsPart (inner_below list) (InnerBelow id) = list ≡ id
IsPart _ _ = ⊥

-- what closes behind the list to which a token refers
abbrev pub closing : Shape → List Item
closing (Plain leaf) = []
closing (below list) = []
closing (inner_below list) = close_item ∷ []

abbrev pub closing_at : Option Token → List Item
closing_at None = []
closing_at (Some token) = closing (shape token)

abbrev pub flat_from : List (List Token) → ℕ → ℕ → List Item
flat_from lists l p = flat (tree_in (trees_from [] lists) (drop p (slice_index_or lists l [])))

-- what stands behind a list on the way up to the root
abbrev pub to_come : (lists : List (List Token)) (root l : ℕ) → Reach lists root l → List Item
to_come lists root l here = []
to_come lists root m (next l p x e way) = closing_at (slice_get (slice_index_or lists l []) p)
    ++ (flat_from lists l (p + 1) ++ to_come lists root l way)

-- the items that were given and those still to come are all
pub record Flattens (lists : List (List Token)) (root list place : ℕ) (given all : List Item) : Type 0 where
  pub way : Reach lists root list
  pub is : given ++ (flat_from lists list place ++ to_come lists root list way) ≡ all
  pub inside : list < length lists
  pub within : place ≤ length (slice_index_or lists list [])
