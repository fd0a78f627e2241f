-- What is still to come where a tree is laid flat: the rest of the list at hand, and of those above it.
use Rattle.std.specs.Prelude.{◌≡◌, ℕ, zero, suc, ◌+◌, ◌<◌, ◌≤◌, List, [], ◌∷◌, ◌++◌, length, Some}
use Rattle.cw_trees.specs.Flat.{Item, Close as close_item, flat}
use Rattle.cw_trees.specs.Tree.{Tree}
use Rattle.cw_tokens.specs.declared.token.Token.{Token}
use Rattle.cw_tokens.specs.declared.flat.Above.{Above}
use Rattle.cw_tokens.specs.declared.flat.FlatItem.{FlatItem}
use Rattle.cw_tokens.specs.declared.walk.FlatPart.TheVariants.{Leaf}
use Rattle.cw_tokens.specs.model.FlatItems.{IsPart}
use Rattle.cw_tokens.specs.Shapes.{shape, ref_of, item_of, tree_in, trees_from}
use Rattle.cw_tokens.specs.Trimming.{Trims, StandsFor}
use Rattle.cw_tokens.specs.model.Walking.{size}

-- a token refers to no list but the first so many
abbrev pub RefersWithin : ℕ → Token → Type 0
RefersWithin count token = (x : ℕ) → ref_of (shape token) ≡ Some x → x < count

abbrev pub ReferWithin : ℕ → List Token → Type 0
ReferWithin count [] = Unit {0}
ReferWithin count (token ∷ tokens) = RefersWithin count token × ReferWithin count tokens

abbrev pub AboveWithin : ℕ → List Above → Type 0
AboveWithin count [] = Unit {0}
AboveWithin count (up ∷ ups) = ReferWithin count up.rest.now × AboveWithin count ups

-- in the place of a token another gives the same items, and is no more to walk
pub record MayStandFor (lists : List (List Token)) (token other : Token) : Type 0 where
  pub same : (rest : Tree) → flat (item_of (trees_from [] lists) (shape other) rest)
      ≡ flat (item_of (trees_from [] lists) (shape token) rest)
  pub smaller : (rest : Tree) → size (item_of (trees_from [] lists) (shape other) rest) ≤ size
      (item_of (trees_from [] lists) (shape token) rest)
  pub within : RefersWithin (length lists) other

-- the list is one token, which is this item
pub record IsLoneWord (list : List Token) (item : FlatItem) : Type 0 where
  pub only : Token
  pub is : list ≡ only ∷ []
  pub part : IsPart (shape only) (Leaf item)

-- the brackets of so many inner texts that end together, of which there is one at most
abbrev pub closing_of : ℕ → List Item
closing_of zero = []
closing_of (suc n) = close_item ∷ []

-- what is to come of the lists above, the innermost first
abbrev pub flat_above : List (List Token) → List Above → List Item
flat_above lists [] = []
flat_above lists (up ∷ ups) = closing_of up.closes ++ (flat (tree_in (trees_from [] lists) up.rest.now)
    ++ flat_above lists ups)

abbrev pub size_of : List (List Token) → List Above → ℕ
size_of lists [] = 0
size_of lists (up ∷ ups) = 1 + (size (tree_in (trees_from [] lists) up.rest.now) + size_of lists ups)

-- the rest of a list went above: it is to come before what stood there
pub record GoesAbove (rest : List Token) (closes : ℕ) (old new : List Above) : Type 0 where
  pub items : (lists : List (List Token)) → flat_above lists new ≡ closing_of closes
      ++ (flat (tree_in (trees_from [] lists) rest) ++ flat_above lists old)
  pub larger : (lists : List (List Token))
      → size_of lists new ≤ 1 + (size (tree_in (trees_from [] lists) rest) + size_of lists old)
  pub within : (count : ℕ) → ReferWithin count rest → AboveWithin count old → AboveWithin count new

-- items were given of the walk, and those that stay of them are kept; the others are to come
pub record TrimsAhead (lists : List (List Token)) (rest : List Token) (above : List Above) (trims : Trims)
    (all : List Item) : Type 0 where
  pub given : List Item
  pub is : given ++ (flat (tree_in (trees_from [] lists) rest) ++ flat_above lists above) ≡ all
  pub stands : StandsFor trims given
  pub within : ReferWithin (length lists) rest
  pub others : AboveWithin (length lists) above

-- from a list and those above it the walk has come to others: with those to come all items are the same as before,
-- and there is no more to walk
pub record Lays (lists : List (List Token)) (first : List Token) (old : List Above) (before : Trims)
    (rest : List Token) (new : List Above) (after : Trims) : Type 0 where
  pub items : (all : List Item) → TrimsAhead lists first old before all → TrimsAhead lists rest new after all
  pub no_more : size (tree_in (trees_from [] lists) rest) + size_of lists new
      ≤ size (tree_in (trees_from [] lists) first) + size_of lists old
  pub within : ReferWithin (length lists) rest
