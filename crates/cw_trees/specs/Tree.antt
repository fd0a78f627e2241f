-- Trees: what a scrap is translated to. A tree is a list of items, and an item is a leaf, a subtree, or an
-- inner subtree (the C text between bars in a comment or in a section name).
use Rattle.std.specs.Prelude.{ℕ, Option, Some, None}
use Rattle.cw_base.specs.declared.category.Cat.{Cat}
use Rattle.cw_base.specs.declared.category.Cat.TheVariants.{RawInt, CaseLike}
use Rattle.cw_base.specs.declared.mode.MathMode.{MathMode}
use Rattle.cw_trees.specs.declared.Control.{Control}
use Rattle.cw_trees.specs.declared.Control.TheVariants.{Inserted}

-- A leaf. A source token, an identifier and a reserved word have a number: the place of their first byte in
-- the text that holds them. A name is a position in the list of names. A reserved word has the category that
-- its token was made with.
pub data Leaf : Type 0 where
  Source : (number : ℕ) → (mode : MathMode) → Leaf
  Ident : (name : ℕ) → (number : ℕ) → Leaf
  Reserved : (name : ℕ) → (number : ℕ) → (cat : Cat) → Leaf
  Sign : (control : Control) → Leaf

pub data Tree : Type 0 where
  Empty : Tree
  Then : (leaf : Leaf) → (rest : Tree) → Tree
  Sub : (tree : Tree) → (rest : Tree) → Tree
  Inner : (tree : Tree) → (rest : Tree) → Tree

-- the name of a tree that is exactly one identifier
abbrev pub bare_name : Tree → Option ℕ
bare_name (Then (Ident name number) Empty) = Some name
bare_name _ = None

-- What a search for the first identifier finds: its name, or something that stops the search before an
-- identifier, or nothing of the kind.
pub data Search : Type 0 where
  Found : (name : ℕ) → Search
  Stopped : Search
  Nothing : Search

abbrev pub or_else : Search → Search → Search
or_else (Found name) later = Found name
or_else Stopped later = Stopped
or_else Nothing later = later

abbrev pub search_word : Cat → Search
search_word CaseLike = Stopped
search_word _ = Nothing

abbrev pub search_sign : Control → Search
search_sign Inserted = Stopped
search_sign _ = Nothing

abbrev pub search_leaf : Leaf → Search
search_leaf (Source number mode) = Nothing
search_leaf (Ident name number) = Found name
search_leaf (Reserved name number cat) = search_word cat
search_leaf (Sign control) = search_sign control

-- The first identifier of a tree, in order. A reserved word like `case` and the mark Inserted end the search.
-- Inner texts are passed over.
abbrev pub first_ident : Tree → Search
first_ident Empty = Nothing
first_ident (Then leaf rest) = or_else (search_leaf leaf) (first_ident rest)
first_ident (Sub tree rest) = or_else (first_ident tree) (first_ident rest)
first_ident (Inner tree rest) = first_ident rest

-- an identifier becomes a reserved word
abbrev pub reserved_leaf : Leaf → Leaf
reserved_leaf (Source number mode) = Source number mode
reserved_leaf (Ident name number) = Reserved name number RawInt
reserved_leaf (Reserved name number cat) = Reserved name number cat
reserved_leaf (Sign control) = Sign control

-- The tree in which its first identifier is a reserved word; the same tree where it has none.
abbrev pub reserve_first : Tree → Tree
reserve_first Empty = Empty
reserve_first (Then leaf rest) = elim (search_leaf leaf) [
  | Found name ↦ Then (reserved_leaf leaf) rest
  | Stopped ↦ Then leaf rest
  | Nothing ↦ Then leaf (reserve_first rest)
]
reserve_first (Sub tree rest) = elim (first_ident tree) [
  | Found name ↦ Sub (reserve_first tree) rest
  | Stopped ↦ Sub tree rest
  | Nothing ↦ Sub tree (reserve_first rest)
]
reserve_first (Inner tree rest) = Inner tree (reserve_first rest)
