-- Lists of tokens as trees.
use Rattle.std.specs.Prelude.{ℕ, List, [], ◌∷◌, ◌++◌, Option, Some, None, slice_index_or}
use Rattle.cw_trees.specs.Tree.{Leaf, Tree, Empty, Then, Sub, Inner, Source as source_leaf, Ident as ident_leaf}
use Rattle.cw_trees.specs.Tree.{Reserved as reserved_leaf, Sign}
use Rattle.cw_tokens.specs.declared.token.Token.{Token}
use Rattle.cw_tokens.specs.declared.token.Token.TheVariants.{Source, Ident, Reserved, Control, Inner as InnerOf}
use Rattle.cw_tokens.specs.declared.token.Token.TheVariants.{«List» as ListOf}

-- a token as an item of a tree: a leaf, or the list that stands below it, as it is or as an inner text
pub data Shape : Type 0 where
  Plain : (leaf : Leaf) → Shape
  Below : (list : ℕ) → Shape
  InnerBelow : (list : ℕ) → Shape

abbrev pub shape : Token → Shape
shape (Source number mode) = Plain (source_leaf number mode)
shape (Ident name number) = Plain (ident_leaf name.index number)
shape (Reserved name number cat) = Plain (reserved_leaf name.index number cat)
shape (Control control) = Plain (Sign control)
shape (InnerOf list) = InnerBelow list.index
shape (ListOf list) = Below list.index

-- the list to which a token refers
abbrev pub ref_of : Shape → Option ℕ
ref_of (Plain leaf) = None
ref_of (Below list) = Some list
ref_of (InnerBelow list) = Some list

-- the tree of a list of tokens, where those of the lists below it are given in order
abbrev pub item_of : List Tree → Shape → Tree → Tree
item_of trees (Plain leaf) rest = Then leaf rest
item_of trees (Below list) rest = Sub (slice_index_or trees list Empty) rest
item_of trees (InnerBelow list) rest = Inner (slice_index_or trees list Empty) rest

abbrev pub tree_in : List Tree → List Token → Tree
tree_in trees [] = Empty
tree_in trees (t ∷ ts) = item_of trees (shape t) (tree_in trees ts)

-- the trees of all lists of a store, in order, behind those that are done
abbrev pub trees_from : List Tree → List (List Token) → List Tree
trees_from done [] = done
trees_from done (ts ∷ lists) = trees_from (done ++ tree_in done ts ∷ []) lists

-- the tree of one list of a store, with each list to which it refers opened
abbrev pub unfolded : List (List Token) → ℕ → Tree
unfolded lists id = slice_index_or (trees_from [] lists) id Empty
