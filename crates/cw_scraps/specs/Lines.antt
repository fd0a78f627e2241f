-- A line of scraps over a store of lists.
use Rattle.std.specs.Prelude.{◌≡◌, ℕ, ◌<◌, true, List, length, None, map, slice_index_or, All}
use Rattle.std.specs.List.{list_all}
use Rattle.cw_base.specs.declared.category.Cat.TheVariants.{End}
use Rattle.cw_base.specs.declared.mode.MathMode.TheVariants.{Maybe}
use Rattle.cw_names.specs.Names.{Entry}
use Rattle.cw_trees.specs.Tree.{Leaf, Tree, Source, Ident, Reserved, Sign, Empty, Then, Sub, Inner}
use Rattle.cw_trees.specs.Joining.{Scrap, scrap_agrees}
use Rattle.cw_table.specs.Normal.{is_fine}
use Rattle.cw_tokens.specs.declared.token.Token.{Token}
use Rattle.cw_tokens.specs.Shapes.{unfolded}
use Rattle.cw_tokens.specs.Stored.{StoredLists}
use Rattle.cw_tokens.specs.References.{IsUnreferred, Reach}
use Rattle.cw_scraps.specs.declared.line.LineEntry.{LineEntry}

-- an entry of a line with the tree of its list, and all of them
abbrev pub seen : List (List Token) → LineEntry → Scrap
seen lists entry = record {
  cat = entry.cat;
  tree = unfolded lists entry.list.index;
  left = entry.left;
  right = entry.right;
}

abbrev pub scraps_of : List (List Token) → List LineEntry → List Scrap
scraps_of lists line = map (seen lists) line

-- the lists of a line
abbrev pub roots_of : List LineEntry → List ℕ
roots_of line = map (λ entry. entry.list.index) line

-- what is read past the end of a line
abbrev pub no_entry : LineEntry
no_entry = record { cat = End; list = record { index = 0 }; left = Maybe; right = Maybe }

-- distinct lists of the store, to none of which a list refers
pub record AreRoots (lists : List (List Token)) (roots : List ℕ) : Type 0 where
  pub there : (i : ℕ) → i < length roots → slice_index_or roots i 0 < length lists
  pub free : (i : ℕ) → i < length roots → IsUnreferred lists (slice_index_or roots i 0)
  pub apart : (i j : ℕ) → i < length roots → j < length roots → slice_index_or roots i 0 ≡ slice_index_or roots j 0
      → i ≡ j

-- a list of the store that stands in the tree of no root, and in whose tree no root stands
pub record IsOutside (lists : List (List Token)) (roots : List ℕ) (k : ℕ) : Type 0 where
  pub there : k < length lists
  pub above : (i : ℕ) → i < length roots → Reach lists k (slice_index_or roots i 0) → ⊥
  pub below : (i : ℕ) → i < length roots → Reach lists (slice_index_or roots i 0) k → ⊥

-- every name in a tree is one of so many
abbrev pub leaf_named_below : ℕ → Leaf → Type 0
leaf_named_below count (Source number mode) = Unit {0}
leaf_named_below count (Ident name number) = name < count
leaf_named_below count (Reserved name number cat) = name < count
leaf_named_below count (Sign control) = Unit {0}

abbrev pub IsNamedBelow : ℕ → Tree → Type 0
IsNamedBelow count Empty = Unit {0}
IsNamedBelow count (Then leaf rest) = leaf_named_below count leaf × IsNamedBelow count rest
IsNamedBelow count (Sub tree rest) = IsNamedBelow count tree × IsNamedBelow count rest
IsNamedBelow count (Inner tree rest) = IsNamedBelow count tree × IsNamedBelow count rest

-- A line is sound over a store and names: no list is being built; its lists are distinct lists of the store, to
-- which no list refers; the names in their trees are names; each tree agrees with its modes; and a scrap that
-- is exactly one identifier is an expression, a statement or the head of a function.
pub record IsSoundLine (store : StoredLists) (names : List Entry) (line : List LineEntry) : Type 0 where
  pub idle : store.building ≡ None
  pub roots : AreRoots store.lists (roots_of line)
  pub named : All (λ scrap. IsNamedBelow (length names) scrap.tree) (scraps_of store.lists line)
  pub modes : All scrap_agrees (scraps_of store.lists line)
  pub fine : list_all is_fine (scraps_of store.lists line) ≡ true
